-- Sets of rates as lists, the slowest first.
use Rattle.std.specs.Prelude.{Bool, true, false, ◌==◌, List, [], ◌∷◌}
use Rattle.std.specs.List.{filter, list_any}
use Rattle.cop_frame.specs.declared.rates.Rate.{Rate}
use Rattle.cop_frame.specs.Rate.{place_of}
use Rattle.cop_frame.specs.RateSet.{all_rates}

-- the rate is one of them
abbrev pub has_rate : List Rate → Rate → Bool
has_rate rates rate = list_any (λ r. place_of rate == place_of r) rates

-- the same rates, the slowest first and each once
unfoldable pub in_order : List Rate → List Rate
in_order rates = filter (has_rate rates) all_rates

-- there is a rate
abbrev pub is_some_rate : List Rate → Bool
is_some_rate [] = false
is_some_rate (rate ∷ rates) = true
