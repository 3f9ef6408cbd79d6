use Rattle.std.proofs.Common.{◌≡◌, ℕ, [], ◌∷◌, Option, Some, None, IfNone, IfSome, Contains, sym, ◌∙◌, ap, subst, arith}
use Rattle.std.proofs.lemmas.List.Elements.{Contains-append_right}
use Rattle.std.proofs.lemmas.Option.{same_Some, none-some}
use Rattle.live_forward.specs.declared.view.View.{View}
use Rattle.live_forward.specs.Seats.{Seated}
use Rattle.live_forward.specs.Forwarding.{stored, saw}
use Rattle.live_forward.specs.Meeting.{Learns}
use Rattle.live_forward.proofs.meeting.round.Goals as goal

-- a store and then a load
learns : (before mid after : Seated) (word place wanted : ℕ) (learnt : Option ℕ) → mid.table ≡ before.table → mid.view ≡ stored word place before.view → after.table ≡ mid.table
    → IfNone learnt (after.view ≡ mid.view) → IfSome learnt (λ x. after.view ≡ saw wanted x mid.view) → Learns before after wanted learnt
learns before mid after word place wanted None mt mv at none some = record {
  table = at ∙ mt;
  ranges = ap (λ (v : View). v.ranges) none ∙ ap (λ (v : View). v.ranges) mv;
  number = ap (λ (v : View). v.number) none ∙ ap (λ (v : View). v.number) mv;
  seen = λ x e. absurd (none-some x e);
}
learns before mid after word place wanted (Some y) mt mv at none some = record {
  table = at ∙ mt;
  ranges = ap (λ (v : View). v.ranges) some ∙ ap (λ (v : View). v.ranges) mv;
  number = ap (λ (v : View). v.number) some ∙ ap (λ (v : View). v.number) mv;
  seen = λ x e. subst (λ (v : View). Contains v.seen (wanted, x)) (sym some) (Contains-append_right mid.view.seen ((wanted, y) ∷ []) (wanted, x) (0, omega arith, ap (λ z. (wanted, z)) (same_Some y x e)));
}

pub returns-clause-learns : goal.returns-clause-learns
returns-clause-learns c = learns _ _ _ _ _ _ _ c.store_own.ensures.table c.store_own.ensures.view c.load-sweeper.ensures.table c.load-sweeper.ensures.none c.load-sweeper.ensures.some
