use Rattle.std.proofs.Common.{◌≡◌, ℕ, ◌<◌, Option, Some, Contains, [], ◌∷◌, List, length, sym, ◌∙◌, subst, arith}
use Rattle.std.specs.Prelude.{slice_index_or}
use Rattle.live_forward.specs.declared.meeting.Sweeper.{Sweeper}
use Rattle.live_forward.specs.Seats.{Seated}
use Rattle.live_forward.specs.Forwarding.{Owns, Agrees, IsWithin}
use Rattle.live_forward.specs.Meeting.{Learns, LearnsFrom}
use Rattle.live_forward.proofs.meeting.meet.Goals as goal

-- what one seat learnt of a word of the other's range, the other stored, once it has seen it too
learns_from : (mine before after shared : Seated) (wanted : ℕ) (learnt : Option ℕ) → ((x : ℕ) → learnt ≡ Some x → Contains mine.view.seen (wanted, x))
    → ((p : ℕ × ℕ) → Contains mine.view.seen p → Contains shared.view.seen p) → after.view.number ≡ before.view.number → after.view.ranges ≡ before.view.ranges
    → (shared.view.number ≡ after.view.number) × (shared.view.ranges ≡ after.view.ranges) → Owns before.view wanted → Agrees shared.view → LearnsFrom shared wanted learnt
learns_from mine before after shared wanted learnt saw told number ranges same owns agrees x e =
    agrees.own wanted x (told (wanted, x) (saw x e)) (
      owns.0,
      same.0 ∙ (number ∙ owns.1),
      subst (λ r. IsWithin r owns.0 wanted) (sym (same.1 ∙ ranges)) owns.2,
    )

-- what `rounds` tells of the two
module _ (first second one two : Sweeper) (after : List Sweeper) where
  abbrev before : List Sweeper
  before = first ∷ second ∷ []

  of_first : after ≡ one ∷ two ∷ [] → ((k : ℕ) (d : Sweeper) → k < length before → Learns (slice_index_or before k d).seat (slice_index_or after k d).seat (slice_index_or after k d).wanted (slice_index_or after k d).learnt)
      → Learns first.seat one.seat one.wanted one.learnt
  of_first is learns = subst (λ (xs : List Sweeper). Learns first.seat (slice_index_or xs 0 first).seat (slice_index_or xs 0 first).wanted (slice_index_or xs 0 first).learnt) is (learns 0 first (omega arith))

  of_second : after ≡ one ∷ two ∷ [] → ((k : ℕ) (d : Sweeper) → k < length before → Learns (slice_index_or before k d).seat (slice_index_or after k d).seat (slice_index_or after k d).wanted (slice_index_or after k d).learnt)
      → Learns second.seat two.seat two.wanted two.learnt
  of_second is learns = subst (λ (xs : List Sweeper). Learns second.seat (slice_index_or xs 1 first).seat (slice_index_or xs 1 first).wanted (slice_index_or xs 1 first).learnt) is (learns 1 first (omega arith))

  wants : after ≡ one ∷ two ∷ [] → ((k : ℕ) (d : Sweeper) → k < length before → (slice_index_or after k d).wanted ≡ (slice_index_or before k d).wanted) → (one.wanted ≡ first.wanted) × (two.wanted ≡ second.wanted)
  wants is same = (
    subst (λ (xs : List Sweeper). (slice_index_or xs 0 first).wanted ≡ first.wanted) is (same 0 first (omega arith)),
    subst (λ (xs : List Sweeper). (slice_index_or xs 1 first).wanted ≡ second.wanted) is (same 1 first (omega arith)),
  )

pub share-requires-clause-one : goal.share-requires-clause-one
share-requires-clause-one g c = (of_first c.args.first c.args.second _ _ _ c.both-one.ensures c.rounds.ensures.learns).table ∙ c.requires.first.table_is

pub share-requires-clause-two : goal.share-requires-clause-two
share-requires-clause-two g c = (of_second c.args.first c.args.second _ _ _ c.both-one.ensures c.rounds.ensures.learns).table ∙ c.requires.second.table_is

pub returns-clause-first : goal.returns-clause-first
returns-clause-first g c =
    let mine = of_first c.args.first c.args.second _ _ _ c.both-one.ensures c.rounds.ensures.learns in
    let other = of_second c.args.first c.args.second _ _ _ c.both-one.ensures c.rounds.ensures.learns in
    let wanted = (wants c.args.first c.args.second _ _ _ c.both-one.ensures c.rounds.ensures.wanted).0 in
    learns_from c.both-one.result.0.seat c.args.second.seat c.both-one.result.1.seat c.share.new.two _ _ mine.seen c.share.ensures.one_seen other.number other.ranges c.share.ensures.two_range (subst (Owns c.args.second.seat.view) (sym wanted) c.requires.first_wanted) c.share.ensures.two_agrees

pub returns-clause-second : goal.returns-clause-second
returns-clause-second g c =
    let mine = of_second c.args.first c.args.second _ _ _ c.both-one.ensures c.rounds.ensures.learns in
    let other = of_first c.args.first c.args.second _ _ _ c.both-one.ensures c.rounds.ensures.learns in
    let wanted = (wants c.args.first c.args.second _ _ _ c.both-one.ensures c.rounds.ensures.wanted).1 in
    learns_from c.both-one.result.1.seat c.args.first.seat c.both-one.result.0.seat c.share.new.one _ _ mine.seen c.share.ensures.two_seen other.number other.ranges c.share.ensures.one_range (subst (Owns c.args.first.seat.view) (sym wanted) c.requires.second_wanted) c.share.ensures.one_agrees
