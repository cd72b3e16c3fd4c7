-- The completed downloads of a list of requests are what a server writes.
use Rattle.std.proofs.Common.{◌≡◌, ℕ, ◌+◌, ◌≤◌, Bool, true, false, not, cond, ◌&&◌, List, [], ◌∷◌, ◌++◌, length, take, refl, ap, sym, arith, append_assoc, length-append, nat_lt, nat_le, Option, Some, None, Result, Ok, Err, option_map, option_to_list, option_and_then}
use Rattle.std.specs.Bool.{beq}
use Rattle.std.specs.Option.{option_map_or}
use Rattle.std.specs.Result.{result_unwrap_or}
use Rattle.cop_dict.specs.declared.abort.Abort.{Abort}
use Rattle.cop_dict.specs.declared.abort.Abort.TheVariants as aborts
use Rattle.cop_dict.specs.Find.{Entry}
use Rattle.cop_dict.specs.Dict.{◌>>=◌, written, read_of, admitted}
use Rattle.cop_dict.proofs.Admitted.{refused_with_bytes}
use Rattle.cop_sdo.specs.declared.address.Address.{Address}
use Rattle.cop_sdo.specs.declared.transfer.Transfer.{Transfer}
use Rattle.cop_sdo.specs.declared.transfer.Transfer.TheVariants.{Idle, Download, Upload}
use Rattle.cop_sdo.specs.Request.{Request, Give, GiveUnsized, Begin, Segment, Ask, AskSegment, Cancel, Unknown}
use Rattle.cop_sdo.specs.Service.{Bytes, segments, fits, download_of, completed, narrow, after_one, after}
use Rattle.cop_sdo.specs.Service as service
use Rattle.cop_sdo.specs.Answers.{download_answer, segment_answer}
use Rattle.cop_sdo.specs.Server.{State, idle, Moved, stays, stored, is_too_long, is_too_short, taken, asked, sent_on, settled, step}
use Rattle.cop_sdo.proofs.Sums.{fit, fit-long, fit-short, fit-right, fit-over, fit-size}

-- the download that is under way, where what follows completes it
abbrev pub pending_of : Transfer → List ℕ → List Request → List service.Download
pending_of (Download at size toggle) bytes rs = option_to_list (option_and_then (λ more. download_of at size (bytes ++ more)) (segments toggle rs))
pending_of Idle bytes rs = []
pending_of (Upload at sent toggle) bytes rs = []

abbrev pub pending : State → List Request → List service.Download
pending state rs = pending_of state.transfer state.bytes rs

abbrev left_by : Moved → List Request → List service.Download → List Entry
left_by m rs ds = after m.dict (pending m.state rs ++ ds)

-- no segment goes on with a download that is under way
quiet : (t : Transfer) (bytes : List ℕ) (r : Request) (rs : List Request) → ((toggle : Bool) → segments toggle (r ∷ rs) ≡ None) → pending_of t bytes (r ∷ rs) ≡ []
quiet Idle bytes r rs none = refl
quiet (Upload at sent toggle) bytes r rs none = refl
quiet (Download at size toggle) bytes r rs none = rw (none toggle) refl

give : (w : Result (List Entry) Abort) (dict : List Entry) (at : Address) (answer : List ℕ) (rs : List Request) (ds : List service.Download)
    → left_by (settled dict at (w >>= λ new. stays idle new answer)) rs ds ≡ after (result_unwrap_or w dict) ds
give (Ok new) dict at answer rs ds = refl
give (Err a) dict at answer rs ds = refl

give_unsized : (a : Result (Option ℕ) Abort) (dict : List Entry) (at : Address) (four answer : List ℕ) (rs : List Request) (ds : List service.Download)
    → left_by (settled dict at (a >>= λ width. narrow width >>= λ count. stored dict at (take count four) answer)) rs ds
    ≡ after (result_unwrap_or (a >>= λ width. narrow width >>= λ count. written dict at.index at.sub (take count four)) dict) ds
give_unsized (Err a) dict at four answer rs ds = refl
give_unsized (Ok width) dict at four answer rs ds = by_count (narrow width)
  where
    by_count : (n : Result ℕ Abort) → left_by (settled dict at (n >>= λ count. stored dict at (take count four) answer)) rs ds
        ≡ after (result_unwrap_or (n >>= λ count. written dict at.index at.sub (take count four)) dict) ds
    by_count (Err a) = refl
    by_count (Ok count) = give (written dict at.index at.sub (take count four)) dict at answer rs ds

-- a download that isn't accepted
refused : (dict : List Entry) (at : Address) (bytes : List ℕ) (a : Abort) (ds : List service.Download) → written dict at.index at.sub bytes ≡ Err a
    → after (after_one dict (Bytes at bytes)) ds ≡ after dict ds
refused dict at bytes a ds h = ap (λ w. after (result_unwrap_or w dict) ds) h

begin_refused : (dict : List Entry) (at : Address) (size : Option ℕ) (a : Abort) (o : Option (List ℕ)) (ds : List service.Download)
    → admitted dict at.index at.sub size ≡ Err a
    → after dict ds ≡ after dict (option_to_list (option_and_then (download_of at size) o) ++ ds)
begin_refused dict at size a None ds h = refl
begin_refused dict at size a (Some bytes) ds h = by_fit (fits size bytes) refl
  where
    by_fit : (b : Bool) → fits size bytes ≡ b → after dict ds ≡ after dict (option_to_list (cond b (Some (Bytes at bytes)) None) ++ ds)
    by_fit false e = refl
    by_fit true e = sym (refused dict at bytes a ds (refused_with_bytes dict at.index at.sub size bytes a (fit-size size (length bytes) e) h))

-- a download whose bytes never fit
never : (at : Address) (size : Option ℕ) (bytes : List ℕ) (ds : List service.Download) → fit size (length bytes) ≡ false
    → ds ≡ option_to_list (download_of at size bytes) ++ ds
never at size bytes ds h = rw h refl

begin_over : (dict : List Entry) (at : Address) (size : Option ℕ) (o : Option (List ℕ)) (ds : List service.Download)
    → option_map_or (λ stated. nat_lt 65535 stated) size false ≡ true
    → after dict ds ≡ after dict (option_to_list (option_and_then (download_of at size) o) ++ ds)
begin_over dict at size None ds h = refl
begin_over dict at size (Some bytes) ds h = ap (after dict) (never at size bytes ds (fit-over size (length bytes) h))

begin : (dict : List Entry) (at : Address) (size : Option ℕ) (rs : List Request) (ds : List service.Download) (a : Result (Option ℕ) Abort) (b : Bool)
    → admitted dict at.index at.sub size ≡ a → option_map_or (λ stated. nat_lt 65535 stated) size false ≡ b
    → left_by (settled dict at (a >>= λ width. cond b (Err aborts.TooLong) (stays (record { transfer = Download at size false; bytes = [] }) dict (download_answer at)))) rs ds
    ≡ after dict (option_to_list (option_and_then (download_of at size) (segments false rs)) ++ ds)
begin dict at size rs ds (Err a) b h over = begin_refused dict at size a (segments false rs) ds h
begin dict at size rs ds (Ok width) true h over = begin_over dict at size (segments false rs) ds over
begin dict at size rs ds (Ok width) false h over = refl

-- a segment that comes while a download is under way
module _ (dict : List Entry) (at : Address) (size : Option ℕ) (rs : List Request) (ds : List service.Download) where
  abbrev goes : Bool → List ℕ → List Request → List service.Download
  goes toggle so_far requests = option_to_list (option_and_then (λ more. download_of at size (so_far ++ more)) (segments toggle requests)) ++ ds

  wrong : (toggle t last : Bool) (so_far bytes : List ℕ) → beq t toggle ≡ false → after dict ds ≡ after dict (goes toggle so_far (Segment t bytes last ∷ rs))
  wrong toggle t true so_far bytes h = rw h refl
  wrong toggle t false so_far bytes h = rw h refl

  long_more : (so_far bytes : List ℕ) (o : Option (List ℕ)) → is_too_long size (length so_far + length bytes) ≡ true
      → after dict ds ≡ after dict (option_to_list (option_and_then (λ more. download_of at size (so_far ++ more)) (option_map (λ rest. bytes ++ rest) o)) ++ ds)
  long_more so_far bytes None h = refl
  long_more so_far bytes (Some rest) h =
      let le : length so_far + length bytes ≤ length (so_far ++ (bytes ++ rest)) = omega (arith, length-append so_far (bytes ++ rest), length-append bytes rest) in
      ap (after dict) (never at size (so_far ++ (bytes ++ rest)) ds (fit-long size _ _ h le))

  long : (toggle t last : Bool) (so_far bytes : List ℕ) → beq t toggle ≡ true → is_too_long size (length so_far + length bytes) ≡ true
      → after dict ds ≡ after dict (goes toggle so_far (Segment t bytes last ∷ rs))
  long toggle t true so_far bytes h l =
      let le : length so_far + length bytes ≤ length (so_far ++ bytes) = omega (arith, length-append so_far bytes) in
      rw h (ap (after dict) (never at size (so_far ++ bytes) ds (fit-long size _ _ l le)))
  long toggle t false so_far bytes h l = rw h (long_more so_far bytes (segments (not toggle) rs) l)

  goes_on : (so_far bytes : List ℕ) (o : Option (List ℕ))
      → option_and_then (λ more. download_of at size ((so_far ++ bytes) ++ more)) o
      ≡ option_and_then (λ more. download_of at size (so_far ++ more)) (option_map (λ rest. bytes ++ rest) o)
  goes_on so_far bytes None = refl
  goes_on so_far bytes (Some rest) = ap (download_of at size) (append_assoc so_far bytes rest)

  ends : (toggle : Bool) (all : List ℕ) (short : Bool) → is_too_long size (length all) ≡ false → is_too_short size (length all) ≡ short
      → left_by (settled dict at (cond short (Err aborts.TooShort) (stored dict at all (segment_answer toggle)))) rs ds
      ≡ after dict (option_to_list (download_of at size all) ++ ds)
  ends toggle all true l h = ap (after dict) (never at size all ds (fit-short size (length all) h))
  ends toggle all false l h = rw (fit-right size (length all) l h) (give (written dict at.index at.sub all) dict at (segment_answer toggle) rs ds)

  segment : (toggle t last : Bool) (so_far bytes : List ℕ) (same too_long : Bool) → beq t toggle ≡ same → is_too_long size (length so_far + length bytes) ≡ too_long
      → left_by (settled dict at (cond (not same) (Err aborts.Toggle) (cond too_long (Err aborts.TooLong) (taken dict at size toggle (so_far ++ bytes) last)))) rs ds
      ≡ after dict (goes toggle so_far (Segment t bytes last ∷ rs))
  segment toggle t last so_far bytes false too_long h l = wrong toggle t last so_far bytes h
  segment toggle t last so_far bytes true true h l = long toggle t last so_far bytes h l
  segment toggle t true so_far bytes true false h l =
      let n : length so_far + length bytes ≡ length (so_far ++ bytes) = sym (length-append so_far bytes) in
      rw h (ends toggle (so_far ++ bytes) (is_too_short size (length (so_far ++ bytes))) (rw n at l) refl)
  segment toggle t false so_far bytes true false h l = rw h (ap (λ o. after dict (option_to_list o ++ ds)) (goes_on so_far bytes (segments (not toggle) rs)))

-- the same for any transfer
segment_in : (transfer : Transfer) (so_far : List ℕ) (dict : List Entry) (t last : Bool) (bytes : List ℕ) (rs : List Request) (ds : List service.Download)
    → left_by (step (record { transfer = transfer; bytes = so_far }) dict (Segment t bytes last)) rs ds
    ≡ after dict (pending_of transfer so_far (Segment t bytes last ∷ rs) ++ ds)
segment_in Idle so_far dict t last bytes rs ds = refl
segment_in (Upload at sent toggle) so_far dict t last bytes rs ds = refl
segment_in (Download at size toggle) so_far dict t last bytes rs ds =
    segment dict at size rs ds toggle t last so_far bytes (beq t toggle) (is_too_long size (length so_far + length bytes)) refl refl

-- what leaves the dictionary alone, and no download under way
pub record IsStill (m : Moved) (dict : List Entry) (rs : List Request) : Type 0 where
  pub kept : m.dict ≡ dict
  pub none : pending m.state rs ≡ []

still : (m : Moved) (dict : List Entry) (rs : List Request) (ds : List service.Download) → IsStill m dict rs → left_by m rs ds ≡ after dict ds
still m dict rs ds h = rw (h.kept, h.none) refl

asks : (r : Result (List ℕ) Abort) (dict : List Entry) (at : Address) (rs : List Request) → IsStill (settled dict at (r >>= λ bytes. Ok (asked dict at bytes))) dict rs
asks (Err a) dict at rs = record { kept = refl; none = refl }
asks (Ok bytes) dict at rs = by_length (nat_lt 0 (length bytes) && nat_le (length bytes) 4) refl
  where
    by_length : (b : Bool) → (nat_lt 0 (length bytes) && nat_le (length bytes) 4) ≡ b → IsStill (asked dict at bytes) dict rs
    by_length true e = rw e (record { kept = refl; none = refl })
    by_length false e = rw e (record { kept = refl; none = refl })

asks_on : (transfer : Transfer) (bytes : List ℕ) (dict : List Entry) (t : Bool) (rs : List Request)
    → IsStill (step (record { transfer = transfer; bytes = bytes }) dict (AskSegment t)) dict rs
asks_on Idle bytes dict t rs = record { kept = refl; none = refl }
asks_on (Download at size toggle) bytes dict t rs = record { kept = refl; none = refl }
asks_on (Upload at sent toggle) bytes dict t rs = by_toggle (beq t toggle) refl
  where
    by_place : (b : Bool) → nat_le (length bytes) (sent + 7) ≡ b → IsStill (sent_on (record { transfer = Upload at sent toggle; bytes = bytes }) dict at sent toggle) dict rs
    by_place true e = rw e (record { kept = refl; none = refl })
    by_place false e = rw e (record { kept = refl; none = refl })

    by_toggle : (b : Bool) → beq t toggle ≡ b → IsStill (step (record { transfer = Upload at sent toggle; bytes = bytes }) dict (AskSegment t)) dict rs
    by_toggle false e = rw e (record { kept = refl; none = refl })
    by_toggle true e = rw e (by_place (nat_le (length bytes) (sent + 7)) refl)

-- one step writes what one request completes
pub one : (r : Request) (rs : List Request) (state : State) (dict : List Entry) (ds : List service.Download)
    → left_by (step state dict r) rs ds ≡ after dict (pending state (r ∷ rs) ++ (option_to_list (completed (r ∷ rs)) ++ ds))
one (Give at bytes) rs state dict ds =
    rw (quiet state.transfer state.bytes (Give at bytes) rs (λ toggle. refl)) (give (written dict at.index at.sub bytes) dict at (download_answer at) rs ds)
one (GiveUnsized at four) rs state dict ds =
    rw (quiet state.transfer state.bytes (GiveUnsized at four) rs (λ toggle. refl)) (give_unsized (admitted dict at.index at.sub None) dict at four (download_answer at) rs ds)
one (Begin at size) rs state dict ds =
    rw (quiet state.transfer state.bytes (Begin at size) rs (λ toggle. refl))
    (begin dict at size rs ds (admitted dict at.index at.sub size) (option_map_or (λ stated. nat_lt 65535 stated) size false) refl refl)
one (Segment t bytes last) rs state dict ds = segment_in state.transfer state.bytes dict t last bytes rs ds
one (Ask at) rs state dict ds =
    rw (quiet state.transfer state.bytes (Ask at) rs (λ toggle. refl)) (still _ dict rs ds (asks (read_of dict at.index at.sub) dict at rs))
one (AskSegment t) rs state dict ds =
    rw (quiet state.transfer state.bytes (AskSegment t) rs (λ toggle. refl)) (still _ dict rs ds (asks_on state.transfer state.bytes dict t rs))
one Cancel rs state dict ds = rw (quiet state.transfer state.bytes Cancel rs (λ toggle. refl)) refl
one (Unknown at) rs state dict ds = rw (quiet state.transfer state.bytes (Unknown at) rs (λ toggle. refl)) refl
