use Rattle.std.proofs.Common.{sym, ◌∙◌}
use Rattle.territory.proofs.Reading.{other_thread, start_told}
use Rattle.territory.proofs.territory.Territory.is_start.Goals as goal

pub returns-then-thread-self : goal.returns-then-thread-self
returns-then-thread-self c = ((λ h. cc), (λ h. absurd (other_thread _ _ _ _ _ c.self.invariant.1 c.self.view_is (λ t. c.if-thread-self.true (c.thread.ensures.value ∙ t)) h)))

pub returns : goal.returns
returns c =
    let b = start_told _ _ _ _ _ _ _ c.self.invariant.1 c.self.view_is (sym c.thread.ensures.value ∙ c.if-thread-self.false) c.segment.ensures.value c.offset.ensures.value c.offset.ensures.even in
    ((λ h. b.0 (c.is_start.ensures.0 h)), (λ h. c.is_start.ensures.1 (b.1 h)))
