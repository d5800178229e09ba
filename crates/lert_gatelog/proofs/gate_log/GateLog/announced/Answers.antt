use Rattle.lert_gatelog.proofs.{Announcing.{looked_none, looked_shut, looked_cut, looked_wrong_none, looked_wrong_many, looked_open, some_bytes, malformed_no_fail, ok_no_fault}, Looking.announced}
use Rattle.lert_gatelog.proofs.gate_log.GateLog.announced.Goals as goal

pub returns-then-read-eq0-clause-looked : goal.returns-then-read-eq0-clause-looked
returns-then-read-eq0-clause-looked c = λ bytes ends copied.
    looked_none c.args.self.now.most c.args.self.now.gate c.args.read c.args.end c.args.head.now bytes c.told-head ends copied c.if-read-eq0.true

pub returns-then-head-ne-OPEN : goal.returns-then-head-ne-OPEN
returns-then-head-ne-OPEN c = record {
  looked = λ bytes ends copied. looked_shut c.args.self.now.most c.args.self.now.gate c.args.read c.args.end c.args.head.now bytes c.told-head ends copied
      c.if-read-eq0.false c.if-head-ne-OPEN.true;
  counted = tt;
  never_failed = λ is. ok_no_fault _ _ is;
}

pub returns-then-read-lt5 : goal.returns-then-read-lt5
returns-then-read-lt5 c = record {
  looked = λ bytes ends copied. looked_cut c.args.self.now.most c.args.self.now.gate c.args.read c.args.end c.args.head.now bytes c.told-head ends copied
      c.if-read-eq0.false c.if-head-ne-OPEN.false c.if-read-lt5.true;
  counted = tt;
  never_failed = λ is. malformed_no_fail _ is;
}

-- ---- a whole length stands there

pub returns-then-count-eq0 : goal.returns-then-count-eq0
returns-then-count-eq0 c = rw (← c.self.view_is) (record {
  looked = λ bytes ends copied. looked_wrong_none c.self.inside.most c.self.inside.gate c.read_u32-count.result bytes
      (announced c.self.inside.most c.self.inside.gate c.args.read c.read_u32-count.result c.args.head.now bytes copied c.if-read-lt5.false c.told-head
      c.if-head-ne-OPEN.false c.read_u32-count.ensures) c.if-count-eq0.true;
  counted = tt;
  never_failed = λ is. malformed_no_fail _ is;
})

pub returns-then-count-self : goal.returns-then-count-self
returns-then-count-self c = rw (← c.self.view_is) (record {
  looked = λ bytes ends copied. looked_wrong_many c.self.inside.most c.self.inside.gate c.read_u32-count.result bytes
      (announced c.self.inside.most c.self.inside.gate c.args.read c.read_u32-count.result c.args.head.now bytes copied c.if-read-lt5.false c.told-head
      c.if-head-ne-OPEN.false c.read_u32-count.ensures) c.if-count-self.true;
  counted = tt;
  never_failed = λ is. malformed_no_fail _ is;
})

pub returns : goal.returns
returns c = rw (← c.self.view_is) (record {
  looked = λ bytes ends copied. looked_open c.self.inside.most c.self.inside.gate c.read_u32-count.result bytes
      (announced c.self.inside.most c.self.inside.gate c.args.read c.read_u32-count.result c.args.head.now bytes copied c.if-read-lt5.false c.told-head
      c.if-head-ne-OPEN.false c.read_u32-count.ensures);
  counted = (some_bytes c.read_u32-count.result c.if-count-eq0.false, c.if-count-self.false);
  never_failed = λ is. ok_no_fault _ _ is;
})
