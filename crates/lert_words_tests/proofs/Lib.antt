mod HeldLaws
mod PassLaws
mod StepLaws
mod ValueLaws
