-- Territories that are dealt out to sweepers are shares.
use Rattle.std.proofs.Common.{◌≡◌, ℕ, ◌+◌, ◌*◌, ◌/◌, ◌%◌, ◌<◌, ◌≤◌, List, length, get_or, slice_get, Option, Some, sym, ap, ◌∙◌, arith}
use Rattle.std.proofs.Math.Nat.{mod-add-div}
use Rattle.std.proofs.lemmas.Option.{slice_get-get_or, slice_get_within}
use Rattle.territory.specs.Territories.{TerritoryView, no_territory}
use Rattle.directory.specs.Directories.{AreOfThreads}
use Rattle.sweep_share.specs.Shares.{AreShareOf}
use Rattle.collector.specs.Dealt.{IsDealtTo}
use Rattle.collector.proofs.BegunTerritories.{at_index}

-- what has the remainder k is number k + its quotient times n
pub number_is : (n k t : ℕ) → t % n ≡ k → k + t / n * n ≡ t
number_is n k t e = let whole = mod-add-div t n in omega (arith, e, whole)

-- the item that one has of its own is the one of all with its number
pub own_there : {X : Type 0} (own : List X) (i : ℕ) (d : X) (o : Option X) → slice_get own i ≡ o → i < length own
    → o ≡ Some (get_or own i d)
own_there own i d o e within = sym e ∙ slice_get-get_or own i d within

-- every n-th of the territories of all threads is a share
pub dealt_share_of : (n k : ℕ) (all own : List TerritoryView) → AreOfThreads all → k < n → n ≤ 64
    → IsDealtTo n k all own → AreShareOf k n own
dealt_share_of n k all own are number_in most dealt = record {
  number_in = number_in;
  most = most;
  threads = λ i within.
      are.each (k + i * n) (get_or own i (no_territory 0))
      (own_there own i (no_territory 0) (slice_get all (k + i * n)) (dealt i) within);
  covers = λ t small e.
      let one = at_index all t (omega (arith, small, are.count)) in
      let here = dealt (t / n) ∙ ap (slice_get all) (number_is n k t e) ∙ one.1 in
      slice_get_within own (t / n) one.0 here;
}
