-- The stream of an identifier stands at its place.
use Rattle.std.proofs.Common.{◌≡◌, ◌∙◌, ℕ, suc, List, [], ◌∷◌, refl, sym, ap, Bool, true, false, if◌then◌else◌, ◌==◌, ◌<◌, length, get_or, Option, Some, None}
use Rattle.std.specs.Prelude.{slice_get, option_map}
use Rattle.std.specs.Option.{option_and_then}
use Rattle.cop_rta.specs.declared.streams.Stream.{Stream}
use Rattle.cop_rta.specs.Streams.{place_of_id}
use Rattle.std.proofs.lemmas.Option.{slice_get_read}
use Rattle.cop_bus.specs.Judge.{stream_of}

later : (k : Stream) (ks : List Stream) (o : Option ℕ) → option_and_then (slice_get (k ∷ ks)) (option_map (λ n. suc n) o) ≡ option_and_then (slice_get ks) o
later k ks None = refl
later k ks (Some n) = refl

pub stream_at : (streams : List Stream) (id : ℕ) → option_and_then (slice_get streams) (place_of_id streams id) ≡ stream_of streams id
stream_at [] id = refl
stream_at (k ∷ ks) id = go (k.id == id) (stream_at ks id)
  where
    go : (b : Bool) → option_and_then (slice_get ks) (place_of_id ks id) ≡ stream_of ks id →
        option_and_then (slice_get (k ∷ ks)) (if b then Some 0 else option_map (λ n. suc n) (place_of_id ks id)) ≡ (if b then Some k else stream_of ks id)
    go true e = refl
    go false e = later k ks (place_of_id ks id) ∙ e

-- the stream that was read at a place, and none where there is no place
pub stream_there : (streams : List Stream) (id n : ℕ) (x : Stream) → place_of_id streams id ≡ Some n → n < length streams → x ≡ get_or streams n x → Some x ≡ stream_of streams id
stream_there streams id n x p l e =
    sym (slice_get_read streams (length streams) n x refl l e) ∙ sym (ap (λ o. option_and_then (slice_get streams) o) p) ∙ stream_at streams id

pub stream_nowhere : (streams : List Stream) (id : ℕ) → place_of_id streams id ≡ None → None ≡ stream_of streams id
stream_nowhere streams id p = sym (ap (λ o. option_and_then (slice_get streams) o) p) ∙ stream_at streams id
