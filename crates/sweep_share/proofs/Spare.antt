-- A share has a first territory, which keeps memory for it.
use Rattle.std.proofs.Common.{◌≡◌, ℕ, ◌%◌, ◌<◌, List, length, arith}
use Rattle.std.proofs.Math.Nat.{mod-eq_of_lt}
use Rattle.territory.specs.Territories.{TerritoryView}
use Rattle.sweep_share.specs.Shares.{AreShareOf}

pub first_there : (number sweepers : ℕ) (territories : List TerritoryView) → AreShareOf number sweepers territories
    → 0 < length territories
first_there number sweepers territories share =
    let own : number % sweepers ≡ number = mod-eq_of_lt share.number_in in
    omega (arith, share.covers number (omega (arith, share.number_in, share.most)) own)
