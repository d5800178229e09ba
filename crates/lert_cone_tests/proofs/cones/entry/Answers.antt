use Rattle.std.proofs.Common.{◌≡◌, ◌+◌, ◌++◌, ◌∷◌, [], take, get_or, All, sym, ap, subst, ◌∙◌, arith}
use Rattle.std.proofs.lemmas.List.{take_more, take_all, map-append}
use Rattle.std.proofs.lemmas.List.Elements.{All-nil, All-cons, All-append}
use Rattle.lert_base.specs.{declared.entry.Entry.Entry, Entries.packet_of}
use Rattle.lert_journal.specs.Payload.{IsJournaled}
use Rattle.lert_cone.specs.History.{most_version}
use Rattle.lert_spec.specs.{Items.{unit, units}, Mix.cone_of}
use Rattle.lert_spec.proofs.ItemLaws.{length-units, keys_in-units, units_of_version}
use Rattle.lert_cone_tests.proofs.cones.entry.Goals as goal

pub loop-key-preserved : goal.loop-key-preserved
loop-key-preserved g c =
    let keys = c.args.keys.now in
    let k = c.loop-key.key-index in
    let more : take (k + 1) keys ≡ take k keys ++ get_or keys k 0 ∷ [] = take_more keys k 0 c.loop-key-test.true in
    record {
      taken = ap (λ list. list.items) c.push.ensures
          ∙ (ap (λ items. items ++ unit (get_or keys k 0) ∷ []) c.loop-key.invariant.taken
          ∙ (sym (map-append unit (take k keys) (get_or keys k 0 ∷ [])) ∙ ap units (sym more)));
      room = ap (λ list. list.room) c.push.ensures ∙ c.loop-key.invariant.room;
      own = subst (All (λ key. cone_of c.args.settings.now key ≡ 0)) (sym more)
          (All-append (λ key. cone_of c.args.settings.now key ≡ 0) (take k keys) (get_or keys k 0 ∷ []) c.loop-key.invariant.own
          (All-cons (λ key. cone_of c.args.settings.now key ≡ 0) (get_or keys k 0) [] c.assert_own.ensures (All-nil (λ key. cone_of c.args.settings.now key ≡ 0))));
    }

pub returns : goal.returns
returns g c =
    let keys = c.args.keys.now in
    let all : take c.loop-key.key-index keys ≡ keys = take_all c.loop-key.key-index keys c.loop-key-test.false in
    let items : c.loop-key.list.items ≡ units keys = c.loop-key.invariant.taken ∙ ap units all in
    subst (λ (entry : Entry). IsJournaled most_version c.args.settings.now 0 (packet_of entry)) (sym c.new.ensures)
    (subst (λ items. IsJournaled most_version c.args.settings.now 0 (record { by = 0; trace = 0; items = items })) (sym items) (record {
      some = omega (arith, c.requires.some, length-units keys);
      few = omega (arith, c.requires.few, length-units keys);
      by_most = omega arith;
      trace_most = omega arith;
      of_cone = subst (All (λ key. cone_of c.args.settings.now key ≡ 0)) (sym (keys_in-units keys)) (subst (All (λ key. cone_of c.args.settings.now key ≡ 0)) all c.loop-key.invariant.own);
      weighed = units_of_version most_version keys;
    }))
