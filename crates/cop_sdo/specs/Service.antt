-- The completed downloads of a list of requests, and what they make of a dictionary.
use Rattle.std.specs.Prelude.{ℕ, ◌≡◌, Bool, true, false, not, ◌&&◌, List, [], ◌∷◌, ◌++◌, length, take, nat_le, ◌==◌, if◌then◌else◌, Option, Some, None, option_map, option_to_list, option_and_then, Result, Ok, Err}
use Rattle.std.specs.Bool.{beq}
use Rattle.std.specs.Option.{option_map_or}
use Rattle.std.specs.Result.{result_unwrap_or}
use Rattle.cop_dict.specs.declared.abort.Abort.{Abort}
use Rattle.cop_dict.specs.declared.abort.Abort.TheVariants as aborts
use Rattle.cop_dict.specs.Find.{Entry}
use Rattle.cop_dict.specs.Dict.{◌>>=◌, written, admitted}
use Rattle.cop_sdo.specs.declared.address.Address.{Address}
use Rattle.cop_sdo.specs.Request.{Request, Give, GiveUnsized, Begin, Segment}

-- what a completed download carries
pub data Download : Type 0 where
  Bytes : (at : Address) (bytes : List ℕ) → Download
  Unsized : (at : Address) (four : List ℕ) → Download

-- the bytes of the segments at the front, whose toggles alternate from this one, up to the first with c = 1
abbrev pub segments : Bool → List Request → Option (List ℕ)
segments toggle (Segment t bytes true ∷ more) = if beq t toggle then Some bytes else None
segments toggle (Segment t bytes false ∷ more) = if beq t toggle then option_map (λ rest. bytes ++ rest) (segments (not toggle) more) else None
segments toggle _ = None

-- as many bytes as stated, and at most 65,535
abbrev pub fits : Option ℕ → List ℕ → Bool
fits size bytes = nat_le (length bytes) 65535 && option_map_or (λ stated. length bytes == stated) size true

abbrev pub download_of : Address → Option ℕ → List ℕ → Option Download
download_of at size bytes = if fits size bytes then Some (Bytes at bytes) else None

-- the completed download with which requests begin
abbrev pub completed : List Request → Option Download
completed (Give at bytes ∷ more) = Some (Bytes at bytes)
completed (GiveUnsized at four ∷ more) = Some (Unsized at four)
completed (Begin at size ∷ more) = option_and_then (download_of at size) (segments false more)
completed _ = None

-- the completed downloads, in order: those with which the rest begins, from each request on
abbrev pub downloads : List Request → List Download
downloads [] = []
downloads (request ∷ more) = option_to_list (completed (request ∷ more)) ++ downloads more

-- as many bytes as the object is wide, if these are at most four
abbrev pub narrow : Option ℕ → Result ℕ Abort
narrow (Some width) = if nat_le width 4 then Ok width else Err aborts.NoSize
narrow None = Err aborts.NoSize

-- the dictionary with the write of a download, or why it isn't accepted
abbrev pub accepted : List Entry → Download → Result (List Entry) Abort
accepted dict (Bytes at bytes) = written dict at.index at.sub bytes
accepted dict (Unsized at four) = do
  width ← admitted dict at.index at.sub None
  count ← narrow width
  written dict at.index at.sub (take count four)

-- the dictionary after a download: with its write, where that is accepted
abbrev pub after_one : List Entry → Download → List Entry
after_one dict download = result_unwrap_or (accepted dict download) dict

-- the dictionary after downloads, one after the other
abbrev pub after : List Entry → List Download → List Entry
after dict [] = dict
after dict (download ∷ more) = after (after_one dict download) more

-- segments whose toggles alternate from this one on, the last alone with c = 1, and their bytes in order
abbrev pub AreSegments : Bool → List Request → List ℕ → Type 0
AreSegments toggle (Segment t more last ∷ []) bytes = (t ≡ toggle) × (last ≡ true) × (bytes ≡ more)
AreSegments toggle (Segment t more last ∷ next ∷ rest) bytes =
    (t ≡ toggle) × (last ≡ false) × (later : List ℕ) × AreSegments (not toggle) (next ∷ rest) later × (bytes ≡ more ++ later)
AreSegments _ _ _ = ⊥

-- requests that are one whole download and nothing else
abbrev pub IsDownload : List Request → Download → Type 0
IsDownload (Give at bytes ∷ []) download = download ≡ Bytes at bytes
IsDownload (GiveUnsized at four ∷ []) download = download ≡ Unsized at four
IsDownload (Begin at size ∷ more) download = (bytes : List ℕ) × AreSegments false more bytes × (fits size bytes ≡ true) × (download ≡ Bytes at bytes)
IsDownload _ _ = ⊥
