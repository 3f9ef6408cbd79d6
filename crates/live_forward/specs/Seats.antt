-- What contracts see of a table and of a seat.
use Rattle.std.specs.Prelude.{◌≡◌, ℕ, List, [], Some}
pub use Rattle.atomic_table.specs.Seated.{TableId}
use Rattle.live_forward.specs.declared.view.View.{View}

-- which table it is, and its ranges
pub record Words : Type 0 where
  pub table : TableId
  pub ranges : List ℕ

-- of which table the seat is, and what it knows
pub record Seated : Type 0 where
  pub table : TableId
  pub view : View

-- the seat is the table's seat of number k, and has forwarded nothing
pub record IsSeatOf (words : Words) (k : ℕ) (seat : Seated) : Type 0 where
  pub table_is : seat.table ≡ words.table
  pub ranges_are : seat.view.ranges ≡ words.ranges
  pub number_is : seat.view.number ≡ Some k
  pub no_forwards : seat.view.own ≡ []
