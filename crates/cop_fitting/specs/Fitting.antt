-- Which EDS files fit a device (CiA 301, "Device type", "Identity object").
use Rattle.std.specs.Prelude.{ℕ, ◌+◌, Bool, true, false, ◌&&◌, ◌||◌, ◌==◌, if◌then◌else◌, List, [], ◌∷◌, Option, Some, None, option_and_then}
use Rattle.cop_dict.specs.Find.{Entry, unsigned32_of, entry_at}
use Rattle.cop_fitting.specs.declared.identity.Identity.{Identity}

abbrev pub not_zero : ℕ → Option ℕ
not_zero number = if number == 0 then None else Some number

-- the number of an UNSIGNED32 at an address, if it is another one than 0
abbrev pub stated_at : List Entry → ℕ → ℕ → Option ℕ
stated_at dict index sub = option_and_then not_zero (option_and_then unsigned32_of (entry_at dict index sub))

-- what a file states of its device
abbrev pub stated_of : List Entry → Identity
stated_of dict = record { device_type = stated_at dict 0x1000 0; vendor = stated_at dict 0x1018 1; product = stated_at dict 0x1018 2; revision = stated_at dict 0x1018 3 }

abbrev pub is_some : Option ℕ → Bool
is_some None = false
is_some (Some number) = true

-- a device told the number that a file states; one that states none fits each
abbrev pub agrees : Option ℕ → Option ℕ → Bool
agrees None told = true
agrees (Some number) None = false
agrees (Some number) (Some other) = number == other

-- a file fits a device: it states the vendor, and the device told that, the product and the device type, if these are stated
abbrev pub fits : Identity → Identity → Bool
fits stated told = is_some stated.vendor && agrees stated.vendor told.vendor && agrees stated.product told.product && agrees stated.device_type told.device_type

-- it fits a device of this revision, too
abbrev pub fits_exactly : Identity → Identity → Bool
fits_exactly stated told = fits stated told && is_some stated.revision && agrees stated.revision told.revision

-- some file fits a device of this revision, too
abbrev pub is_exact_among : List Identity → Identity → Bool
is_exact_among [] told = false
is_exact_among (s ∷ rest) told = fits_exactly s told || is_exact_among rest told

-- a file is one of those that fit a device: of its revision, and if there is none, of any
abbrev pub is_chosen : List Identity → Identity → Identity → Bool
is_chosen all stated told = if is_exact_among all told then fits_exactly stated told else fits stated told

-- the places of those from a place on
abbrev pub places_from : ℕ → List Identity → List Identity → Identity → List ℕ
places_from place all [] told = []
places_from place all (s ∷ rest) told = if is_chosen all s told then place ∷ places_from (place + 1) all rest told else places_from (place + 1) all rest told

-- the places of all files that fit a device
abbrev pub places_of : List Identity → Identity → List ℕ
places_of all told = places_from 0 all all told
