-- What the strict reading takes of a text.
use Rattle.std.proofs.Common.{◌≡◌, ◌↔◌, ℕ, true, List, Ok, Err, refl, Contains}
use Rattle.cop_frame.specs.declared.rates.Rate.{Rate}
use Rattle.cop_eds.specs.declared.fault.Refusal.{Refusal}
use Rattle.cop_eds.specs.Rates.{support_of}
use Rattle.cop_dict.specs.Find.{Entry}
use Rattle.cop_dict.specs.Build.{built}
use Rattle.cop_tidy.specs.Standing.{AreRefused}
use Rattle.cop_tidy.specs.Taken.{AreRatesOf, IsTaken}

pub taken_of : (text : List ℕ) (rates : List Rate) (first last : List Entry) → ((rate : Rate) → Contains rates rate ↔ (support_of text rate ≡ Ok true))
    → built text 1 ≡ Ok first → built text 127 ≡ Ok last → IsTaken text (record { rates = rates; first = first; last = last })
unfolding AreRatesOf
taken_of text rates first last r f l = record { rates = r; first = f; last = l }

pub refused_first : (text : List ℕ) (refusal : Refusal) → built text 1 ≡ Err refusal → AreRefused (built text 1) (built text 127) refusal
refused_first text refusal e = rw e refl

pub refused_last : (text : List ℕ) (first : List Entry) (refusal : Refusal) → built text 1 ≡ Ok first → built text 127 ≡ Err refusal → AreRefused (built text 1) (built text 127) refusal
refused_last text first refusal e f = rw (e, f) refl
