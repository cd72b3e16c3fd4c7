-- How wide the values of settings are.
use Rattle.std.specs.Prelude.{ℕ}
use Rattle.cop_setup.specs.declared.setting.Width.{Width}
use Rattle.cop_setup.specs.declared.setting.Width.TheVariants.{One, Two, Four}

-- how many bytes a value of a width has
abbrev pub size_of : Width → ℕ
size_of One = 1
size_of Two = 2
size_of Four = 4
