-- Listening that goes on.
use Rattle.std.proofs.Common.{◌≡◌, ℕ, ◌+◌, ◌-◌, ◌≤◌, Bool, true, false, List, [], ◌∷◌, ◌++◌, length, take, drop, get_or, refl, sym, ◌∙◌, ap, subst, arith, inl, inr, Option}
use Rattle.std.specs.Prelude.{◌⊎◌, option_to_list}
use Rattle.std.specs.List.{AllByRecursion}
use Rattle.std.proofs.lemmas.List.{take_all}
use Rattle.cop_frame.specs.declared.rates.Rate.{Rate}
use Rattle.cop_slcan.specs.Meaning.{Told}
use Rattle.cop_slcan.specs.Reading.{taken, said_from, left_from}
use Rattle.cop_live.specs.Log.{ByteStep, ClockStep, Asked, Read, DidAll, BrokeOff}
use Rattle.cop_live.specs.declared.opening.Reply.{Reply}
use Rattle.cop_live.specs.Opening.{OpenedToListen}
use Rattle.cop_live.proofs.Sessions.{did_both, one_longer, did_then_broke}
use Rattle.cop_heartbeats.specs.Attending.{attending_log, AttendFails}
use Rattle.cop_listen.specs.declared.listening.Listened.{Listened}
use Rattle.cop_listen.specs.declared.listening.Listened.TheVariants.{Ended, Unopened, Failed}
use Rattle.cop_listen.specs.Listening.{LineStep, Ending, HearsAll, left_by, HearsOn, is_over, Hears, IsListened, HearsAndCloses, if_failed, HearingFails, ListeningFails}

-- lines in two parts
module _ {L : Type 0} (hears : LineStep L) (now : ℕ) where
  both : (l k m : L) (xs ys : List Told) → HearsAll hears now l xs k → HearsAll hears now k ys m → HearsAll hears now l (xs ++ ys) m
  both l k m [] ys a b = subst (λ (x : L). HearsAll hears now x ys m) (sym a) b
  both l k m (x ∷ xs) ys (j, one, a) b = (j, one, both j k m xs ys a b)

  -- what bytes say, by the first and the others
  pub bytes_heard : (l k m : L) (pending left bytes : List ℕ) → 1 ≤ length bytes → left ≡ (taken pending (get_or bytes 0 0)).0
      → HearsAll hears now l (option_to_list (taken pending (get_or bytes 0 0)).1) k → HearsAll hears now k (said_from left (take (length bytes - 1) (drop 1 bytes))) m
      → HearsAll hears now l (said_from pending bytes) m
  bytes_heard l k m pending left [] some el first more = absurd (omega arith)
  bytes_heard l k m pending left (b ∷ bytes) some el first more =
      let rest : take (length (b ∷ bytes) - 1) bytes ≡ bytes = take_all (length (b ∷ bytes) - 1) bytes (omega arith) in
      both l k m (option_to_list (taken pending b).1) (said_from (taken pending b).0 bytes) first
      (subst (λ x. HearsAll hears now k (said_from x bytes) m) el (subst (λ xs. HearsAll hears now k (said_from left xs) m) rest more))

-- turns and one more
log_more : (turns : List (ℕ × List ℕ)) (now : ℕ) (bytes : List ℕ) → attending_log (turns ++ (now, bytes) ∷ []) ≡ attending_log turns ++ Read bytes ∷ Asked now ∷ []
log_more [] now bytes = refl
log_more ((at, got) ∷ turns) now bytes = ap (λ log. Read got ∷ Asked at ∷ log) (log_more turns now bytes)

left_more : (pending : List ℕ) (turns : List (ℕ × List ℕ)) (now : ℕ) (bytes : List ℕ) → left_by pending (turns ++ (now, bytes) ∷ []) ≡ left_from (left_by pending turns) bytes
left_more pending [] now bytes = refl
left_more pending ((at, got) ∷ turns) now bytes = left_more (left_from pending got) turns now bytes

all_more : {A : Type 0} (Q : A → Type 0) (xs : List A) (x : A) → AllByRecursion Q xs → Q x → AllByRecursion Q (xs ++ x ∷ [])
all_more Q [] x h q = (q, tt)
all_more Q (y ∷ xs) x h q = (h.0, all_more Q xs x h.1 q)

heard_more : {L : Type 0} (hears : LineStep L) (ends : Ending L) (pending : List ℕ) (l k m : L) (turns : List (ℕ × List ℕ)) (now : ℕ) (bytes : List ℕ) → HearsOn hears ends pending l turns k
    → HearsAll hears now k (said_from (left_by pending turns) bytes) m → ends m false → HearsOn hears ends pending l (turns ++ (now, bytes) ∷ []) m
heard_more {L} hears ends pending l k m [] now bytes e h s = (m, subst (λ (x : L). HearsAll hears now x (said_from pending bytes) m) (sym e) h, s, refl)
heard_more hears ends pending l k m ((at, got) ∷ turns) now bytes (j, first, goes, more) h s = (j, first, goes, heard_more hears ends (left_from pending got) j k m turns now bytes more h s)

-- it is listened so far, for at least so many turns
pub record Listens {P L : Type 0} (reads writes : ByteStep P) (asks : ClockStep P) (hears : LineStep L) (ends : Ending L) (limit : Option ℕ) (began : ℕ) (p : P) (l : L) (k : ℕ) (pending : List ℕ) (q : P) (m : L) : Type 0 where
  pub turns : List (ℕ × List ℕ)
  pub did : DidAll reads writes asks p (Asked began ∷ attending_log turns) q
  pub soon : AllByRecursion (λ turn. is_over limit began turn.0 ≡ false) turns
  pub heard : HearsOn hears ends [] l turns m
  pub left : pending ≡ left_by [] turns
  pub many : k ≤ length turns

module _ {P L : Type 0} (reads writes : ByteStep P) (asks : ClockStep P) (hears : LineStep L) (ends : Ending L) (limit : Option ℕ) (began : ℕ) (p : P) (l : L) where
  pub listens_first : (k : ℕ) (pending : List ℕ) (q : P) → asks p began q → pending ≡ [] → k ≡ 0 → Listens reads writes asks hears ends limit began p l k pending q l
  listens_first k pending q asked e ek = record { turns = []; did = (q, asked, refl); soon = tt; heard = refl; left = e; many = omega (arith, ek) }

  turn_done : (k : ℕ) (pending : List ℕ) (q r s : P) (m : L) (now : ℕ) (bytes : List ℕ) (a : Listens reads writes asks hears ends limit began p l k pending q m) → reads q bytes r → asks r now s
      → DidAll reads writes asks p (Asked began ∷ attending_log (a.turns ++ (now, bytes) ∷ [])) s
  turn_done k pending q r s m now bytes a got asked =
      subst (λ log. DidAll reads writes asks p (Asked began ∷ log) s) (sym (log_more a.turns now bytes))
      (did_both reads writes asks p q s (Asked began ∷ attending_log a.turns) (Read bytes ∷ Asked now ∷ []) a.did (r, got, (s, asked, refl)))

  -- what is heard in a turn, by the turns before it
  in_turn : (k : ℕ) (pending : List ℕ) (q : P) (m n : L) (now : ℕ) (bytes : List ℕ) (a : Listens reads writes asks hears ends limit began p l k pending q m) → HearsAll hears now m (said_from pending bytes) n
      → HearsAll hears now m (said_from (left_by [] a.turns) bytes) n
  in_turn k pending q m n now bytes a h = subst (λ x. HearsAll hears now m (said_from x bytes) n) a.left h

  pub listens_on : (k : ℕ) (pending later : List ℕ) (q r s : P) (m n : L) (now : ℕ) (bytes : List ℕ) → Listens reads writes asks hears ends limit began p l k pending q m → reads q bytes r → asks r now s
      → HearsAll hears now m (said_from pending bytes) n → later ≡ left_from pending bytes → is_over limit began now ≡ false → ends n false → Listens reads writes asks hears ends limit began p l (k + 1) later s n
  listens_on k pending later q r s m n now bytes a got asked h e early goes = record {
    turns = a.turns ++ (now, bytes) ∷ [];
    did = turn_done k pending q r s m now bytes a got asked;
    soon = all_more (λ (turn : ℕ × List ℕ). is_over limit began turn.0 ≡ false) a.turns (now, bytes) a.soon early;
    heard = heard_more hears ends [] l m n a.turns now bytes a.heard (in_turn k pending q m n now bytes a h) goes;
    left = e ∙ ap (λ x. left_from x bytes) a.left ∙ sym (left_more [] a.turns now bytes);
    many = one_longer k a.turns (now, bytes) a.many;
  }

  pub listens_all : (k : ℕ) (pending : List ℕ) (q r s : P) (m n : L) (now : ℕ) (bytes : List ℕ) → Listens reads writes asks hears ends limit began p l k pending q m → reads q bytes r → asks r now s
      → HearsAll hears now m (said_from pending bytes) n → (is_over limit began now ≡ true) ⊎ ends n true → Hears reads writes asks hears ends limit p l s n
  listens_all k pending q r s m n now bytes a got asked h ended = record {
    began = began;
    early = a.turns;
    last = (now, bytes);
    before = m;
    did = turn_done k pending q r s m now bytes a got asked;
    soon = a.soon;
    heard = a.heard;
    heard_last = in_turn k pending q m n now bytes a h;
    ended = ended;
  }

  -- listening gives out
  module _ (fails : ByteStep P) where
    abbrev Lost : P → Type 0
    Lost r = AttendFails reads writes asks fails p r

    turn_off : (k : ℕ) (pending : List ℕ) (q r : P) (m : L) (now : ℕ) (bytes : List ℕ) → Listens reads writes asks hears ends limit began p l k pending q m → BrokeOff reads writes asks fails q (Read bytes ∷ Asked now ∷ []) r → Lost r
    turn_off k pending q r m now bytes a off =
        let log : Asked began ∷ attending_log (a.turns ++ (now, bytes) ∷ []) ≡ (Asked began ∷ attending_log a.turns) ++ Read bytes ∷ Asked now ∷ [] = ap (λ x. Asked began ∷ x) (log_more a.turns now bytes) in
        (began, a.turns ++ (now, bytes) ∷ [], inl (subst (λ x. BrokeOff reads writes asks fails p x r) (sym log) (did_then_broke reads writes asks fails p q r (Asked began ∷ attending_log a.turns) (Read bytes ∷ Asked now ∷ []) a.did off)))

    pub unread : (k : ℕ) (pending : List ℕ) (q r : P) (m : L) → Listens reads writes asks hears ends limit began p l k pending q m → fails q [] r → Lost r
    unread k pending q r m a f = turn_off k pending q r m 0 [] a (inl f)

    pub unasked : (k : ℕ) (pending : List ℕ) (q r s : P) (m : L) (bytes : List ℕ) → Listens reads writes asks hears ends limit began p l k pending q m → reads q bytes r → fails r [] s → Lost s
    unasked k pending q r s m bytes a got f = turn_off k pending q s m 0 bytes a (inr (r, got, inl f))

    pub too_long : (k : ℕ) (pending : List ℕ) (q : P) (m : L) → Listens reads writes asks hears ends limit began p l k pending q m → 18446744073709551615 ≤ k → Lost q
    too_long k pending q m a enough = (began, a.turns, inr (a.did, omega (arith, a.many, enough)))

-- the look at the clock gives out by which listening begins
pub unbegun : {P : Type 0} (reads writes : ByteStep P) (asks : ClockStep P) (fails : ByteStep P) (p r : P) → fails p [] r → AttendFails reads writes asks fails p r
unbegun reads writes asks fails p r f = (0, [], inl (inl f))

-- what came of listening over an adapter that was opened
module _ {P L : Type 0} (reads writes : ByteStep P) (asks : ClockStep P) (hears : LineStep L) (ends : Ending L) (rate : Rate) (limit : Option ℕ) (answer : Reply) (p opened q : P) (l m : L) where
  pub listened_so : (listened : Listened) → OpenedToListen reads writes rate answer p opened → HearsAndCloses reads writes asks hears ends answer limit opened l listened q m
      → IsListened reads writes asks hears ends rate limit p l listened q m
  listened_so (Ended other) opens h = record { opened = opened; opens = subst (λ (r : Reply). OpenedToListen reads writes rate r p opened) (sym h.0) opens; heard = h.1 }
  listened_so (Unopened command) opens h = absurd h
  listened_so Failed opens h = tt

  pub unlistened_so : (fails : ByteStep P) (listened : Listened) → OpenedToListen reads writes rate answer p opened → if_failed listened (HearingFails reads writes asks fails hears ends limit opened l q m)
      → if_failed listened (ListeningFails reads writes asks fails hears ends rate limit p l q m)
  unlistened_so fails (Ended other) opens h = tt
  unlistened_so fails (Unopened command) opens h = tt
  unlistened_so fails Failed opens h = inr (answer, opened, opens, h)
