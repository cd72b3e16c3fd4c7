use Rattle.std.proofs.Common.{ℕ, ◌≡◌, ◌<◌, nat_lt, ◌&&◌, length, All, AllPairs}
use Rattle.cop_rta.specs.Sums.{sum_where}
use Rattle.cop_rta.specs.Test.{is_flagged}
use Rattle.cop_cert.specs.Evidence.{is_listed}
use Rattle.cop_plan.proofs.filling.left.Given as goal

abbrev pub invariant-loop-pdo : goal.invariant-loop-pdo
invariant-loop-pdo l = record {
  exact : (k : ℕ) → is_listed l.found.items k ≡ (nat_lt k l.pdo && is_flagged l.place.flags k);
  rise : AllPairs (λ m n. m < n) l.found.items;
  inside : All (λ m. m < l.pdo) l.found.items;
  count : length l.found.items ≡ sum_where (is_flagged l.place.flags) (λ _. 1) l.pdo;
}
