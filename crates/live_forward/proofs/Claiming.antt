-- Seats that claim and are split in turn.
use Rattle.std.proofs.Common.{◌≡◌, ℕ, ◌+◌, ◌-◌, ◌<◌, ◌≤◌, List, [], ◌∷◌, ◌++◌, length, Some, None, refl, sym, ap, ◌∙◌, subst, ⊎_elim, arith, length-append}
use Rattle.std.specs.Prelude.{slice_index_or}
use Rattle.std.proofs.lemmas.Bool.{cases_lt}
use Rattle.std.proofs.lemmas.List.{get_or_append_left, get_or_at}
use Rattle.live_forward.specs.Seats.{Words, Seated, IsSeatOf}
use Rattle.live_forward.specs.declared.view.View.{View}
use Rattle.live_forward.specs.Forwarding.{first_view, claimed, without_rights, split_off}

-- n seats have claimed, and the next one can
pub record Claimed (words : Words) (seats : List Seated) (seat : Seated) (n : ℕ) : Type 0 where
  pub len : length seats ≡ n
  pub each : (k : ℕ) (d : Seated) → k < n → IsSeatOf words k (slice_index_or seats k d)
  pub table_is : seat.table ≡ words.table
  pub ranges_are : seat.view.ranges ≡ words.ranges
  pub no_number : seat.view.number ≡ None
  pub floor_is : seat.view.floor ≡ n
  pub rights_are : seat.view.rights + n ≡ length words.ranges
  pub no_forwards : seat.view.own ≡ []

pub none_claimed : (words : Words) (seat : Seated) → seat.table ≡ words.table → seat.view ≡ first_view words.ranges → Claimed words [] seat 0
none_claimed words seat t v = record {
  len = refl;
  each = λ k d l. absurd (omega arith);
  table_is = t;
  ranges_are = ap (λ (u : View). u.ranges) v;
  no_number = ap (λ (u : View). u.number) v;
  floor_is = ap (λ (u : View). u.floor) v;
  rights_are = let r : seat.view.rights ≡ length words.ranges = ap (λ (u : View). u.rights) v in omega arith;
  no_forwards = ap (λ (u : View). u.own) v;
}

pub claims_one : (words : Words) (seats : List Seated) (seat split next : Seated) (n number : ℕ) → Claimed words seats seat n
    → seat.view.floor ≤ number → number + seat.view.rights ≤ length seat.view.ranges → n < length words.ranges
    → split.table ≡ seat.table → split.view ≡ without_rights (claimed number seat.view) → next.table ≡ seat.table → next.view ≡ split_off (claimed number seat.view)
    → Claimed words (seats ++ split ∷ []) next (n + 1)
claims_one words seats seat split next n number h low high more st sv nt nv =
    let f = h.floor_is in
    let r = h.rights_are in
    let l = h.len in
    let e : length seat.view.ranges ≡ length words.ranges = ap (λ (rs : List ℕ). length rs) h.ranges_are in
    let is : number ≡ n = omega arith in
    let rights : next.view.rights ≡ seat.view.rights - 1 = ap (λ (u : View). u.rights) nv in
    let one : IsSeatOf words n split = record {
      table_is = st ∙ h.table_is;
      ranges_are = ap (λ (u : View). u.ranges) sv ∙ h.ranges_are;
      number_is = ap (λ (u : View). u.number) sv ∙ ap Some is;
      no_forwards = ap (λ (u : View). u.own) sv ∙ h.no_forwards;
    } in record {
      len = length-append seats (split ∷ []) ∙ ap (λ i. i + 1) h.len;
      each = λ k d lk. ⊎_elim
          (λ (x : k < n). subst (IsSeatOf words k) (sym (get_or_append_left seats (split ∷ []) d k (omega arith))) (h.each k d x))
          (λ (x : n ≤ k). let at : k ≡ n = omega arith in subst (λ i. IsSeatOf words i (slice_index_or (seats ++ split ∷ []) i d)) (sym at) (subst (IsSeatOf words n) (sym (get_or_at seats split [] d n h.len)) one))
          (cases_lt k n);
      table_is = nt ∙ h.table_is;
      ranges_are = ap (λ (u : View). u.ranges) nv ∙ h.ranges_are;
      no_number = ap (λ (u : View). u.number) nv;
      floor_is = ap (λ (u : View). u.floor) nv ∙ ap (λ i. i + 1) is;
      rights_are = omega arith;
      no_forwards = ap (λ (u : View). u.own) nv;
    }
