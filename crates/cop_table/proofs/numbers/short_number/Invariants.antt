use Rattle.std.proofs.Common.{◌≡◌, ◌<◌, ◌≤◌, ◌-◌, ◌^◌, length}
use Rattle.std.specs.List.{list_all}
use Rattle.std.specs.Char.{is_digit}
use Rattle.std.specs.Str.Parse.{digits_value, digits_value_after}
use Rattle.cop_table.proofs.numbers.short_number.Given as goal

abbrev pub invariant-loop-first : goal.invariant-loop-first
invariant-loop-first l = record {
  digits : list_all (λ c. is_digit c 10) l.rest ≡ list_all (λ c. is_digit c 10) l.text;
  fits : l.value < 10 ^ (length l.text - length l.rest);
  left : length l.rest ≤ length l.text;
  value : digits_value_after 10 l.value l.rest ≡ digits_value 10 l.text;
}

abbrev pub decreases-loop-first : goal.decreases-loop-first
decreases-loop-first l = length l.rest
