-- The file of refusals that hold has refusals that hold.
use Rattle.std.proofs.Common.{◌≡◌, ℕ, ◌<◌, ◌≤◌, Bool, true, false, nat_le, if◌then◌else◌, List, [], ◌∷◌, length, map, All, AllPairs, Ok, refl, ap, arith}
use Rattle.std.proofs.lemmas.List.{length-map, get_or-map}
use Rattle.std.proofs.lemmas.List.Elements.{All-head, All-tail, All-nil, All-cons}
use Rattle.cop_frame.specs.Rate.{kbits_of}
use Rattle.cop_rta.specs.declared.streams.Stream.{Stream}
use Rattle.cop_cert.specs.declared.refusals.Refusal.{Refusal}
use Rattle.cop_cert.specs.Causes.{IsRefusal}
use Rattle.cop_cert.specs.Format.{text_of, shared_text_of}
use Rattle.cop_cert.specs.Reading.{refusals_of}
use Rattle.cop_cert.specs.Short.{shortened, most_bytes, filed, file_of}
use Rattle.cop_cert.specs.Writable.{IsWritableRefusal, AreWritable}
use Rattle.cop_cert.proofs.RoundTrip.{written_is_read}
use Rattle.cop_cert.proofs.SharedTrip.{shared_is_read}
use Rattle.cop_cert.proofs.ShortLemmas.{short_holds, short_is_writable}

module _ (streams : List Stream) (pdos : ℕ) where
  all_short : (P Q : Refusal → Type 0) → ((r : Refusal) → P r → Q (shortened streams pdos r)) → (rs : List Refusal) → All P rs → All Q (map (shortened streams pdos) rs)
  all_short P Q each [] h = All-nil Q
  all_short P Q each (r ∷ rs) h = All-cons Q (shortened streams pdos r) (map (shortened streams pdos) rs) (each r (All-head P r rs h)) (all_short P Q each rs (All-tail P r rs h))

  short_are_writable : (rs : List Refusal) → AreWritable rs → AreWritable (map (shortened streams pdos) rs)
  short_are_writable rs h = record {
    rise = λ i j d lt below.
        let count = length-map rs (shortened streams pdos) in
        rw (get_or-map (shortened streams pdos) rs i d d (omega arith), get_or-map (shortened streams pdos) rs j d d (omega arith)) (h.rise i j d lt (omega arith));
    each = all_short IsWritableRefusal IsWritableRefusal (short_is_writable streams pdos) rs h.each;
  }

  pub file_read : (rs : List Refusal) → AreWritable rs → refusals_of (file_of streams pdos rs) ≡ Ok (filed streams pdos rs)
  file_read rs h = go (nat_le (length (text_of rs)) most_bytes)
    where
      go : (b : Bool) → refusals_of (if b then text_of rs else shared_text_of (map (shortened streams pdos) rs)) ≡ Ok (if b then rs else map (shortened streams pdos) rs)
      go true = written_is_read rs h
      go false = shared_is_read (map (shortened streams pdos) rs) (short_are_writable rs h)

  pub filed_hold : (rs : List Refusal) → All (IsRefusal streams pdos) rs → All (IsRefusal streams pdos) (filed streams pdos rs)
  filed_hold rs h = go (nat_le (length (text_of rs)) most_bytes)
    where
      go : (b : Bool) → All (IsRefusal streams pdos) (if b then rs else map (shortened streams pdos) rs)
      go true = h
      go false = all_short (IsRefusal streams pdos) (IsRefusal streams pdos) (short_holds streams pdos) rs h

  rates_same : (rs : List Refusal) → map (λ r. r.rate) (map (shortened streams pdos) rs) ≡ map (λ r. r.rate) rs
  rates_same [] = refl
  rates_same (r ∷ rs) = ap (λ rates. r.rate ∷ rates) (rates_same rs)

  pub filed_rates : (rs : List Refusal) → map (λ r. r.rate) (filed streams pdos rs) ≡ map (λ r. r.rate) rs
  filed_rates rs = go (nat_le (length (text_of rs)) most_bytes)
    where
      go : (b : Bool) → map (λ r. r.rate) (if b then rs else map (shortened streams pdos) rs) ≡ map (λ r. r.rate) rs
      go true = refl
      go false = rates_same rs
