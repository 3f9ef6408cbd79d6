use Rattle.std.proofs.Common.{◌≡◌, ◌≤◌, take, true}
use Rattle.std.specs.List.{list_all}
use Rattle.trace_types.specs.Reading.{is_digit, numeral_value}
use Rattle.trace_text.proofs.numeral.digits_to.Given as goal

abbrev pub invariant-loop-c : goal.invariant-loop-c
invariant-loop-c l = record {
  digits : list_all is_digit (take l.c-index l.text) ≡ true;
  value : l.value ≡ numeral_value (take l.c-index l.text);
  in_range : l.value ≤ l.limit;
}
