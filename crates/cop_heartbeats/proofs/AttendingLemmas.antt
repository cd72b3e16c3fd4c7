-- Nodes that are being attended to.
use Rattle.std.proofs.Common.{◌≡◌, ℕ, ◌+◌, ◌-◌, ◌≤◌, ◌<◌, Bool, List, [], ◌∷◌, ◌++◌, length, take, drop, get_or, refl, sym, ◌∙◌, ap, subst, arith, inl, inr}
use Rattle.std.specs.Prelude.{option_to_list}
use Rattle.std.specs.List.{AllByRecursion}
use Rattle.std.proofs.lemmas.List.{take_all}
use Rattle.cop_slcan.specs.Meaning.{Told}
use Rattle.cop_slcan.specs.Reading.{taken, said_from, left_from}
use Rattle.cop_live.specs.Log.{ByteStep, ClockStep, Asked, Read, DidAll, BrokeOff}
use Rattle.cop_live.proofs.Sessions.{did_both, one_longer, did_then_broke}
use Rattle.cop_heartbeats.specs.declared.attending.Awaited.{Awaited}
use Rattle.cop_heartbeats.specs.declared.attending.Heartbeats.{Heartbeats}
use Rattle.cop_heartbeats.specs.Attending.{beat_at, beats_in, heard_at, heard_in, Hearing, beginning, turned, attended, attending_log, Attended, AttendFails}

-- what bytes say and leave, by the first and the others
rest_of : (pending : List ℕ) (b : ℕ) (bytes : List ℕ) → take (length (b ∷ bytes) - 1) bytes ≡ bytes
rest_of pending b bytes = take_all (length (b ∷ bytes) - 1) bytes (omega arith)

beats_append : (now : ℕ) (last : List ℕ) (xs ys : List Told) → beats_in now last (xs ++ ys) ≡ beats_in now (beats_in now last xs) ys
beats_append now last [] ys = refl
beats_append now last (x ∷ xs) ys = beats_append now (beat_at now last x) xs ys

heard_append : (heard : List Bool) (xs ys : List Told) → heard_in heard (xs ++ ys) ≡ heard_in (heard_in heard xs) ys
heard_append heard [] ys = refl
heard_append heard (x ∷ xs) ys = heard_append (heard_at heard x) xs ys

-- what is made of bytes, by the first and the others
folded : {A : Type 0} (made : A → List Told → A) → ((a : A) (xs ys : List Told) → made a (xs ++ ys) ≡ made (made a xs) ys)
    → (old first new : A) (pending left bytes : List ℕ) → 1 ≤ length bytes → left ≡ (taken pending (get_or bytes 0 0)).0
    → first ≡ made old (option_to_list (taken pending (get_or bytes 0 0)).1) → new ≡ made first (said_from left (take (length bytes - 1) (drop 1 bytes)))
    → new ≡ made old (said_from pending bytes)
folded made appends old first new pending left [] some el ef en = absurd (omega arith)
folded made appends old first new pending left (b ∷ bytes) some el ef en =
    en ∙ ap (λ l. made first (said_from left l)) (rest_of pending b bytes) ∙ ap (λ l. made first (said_from l bytes)) el ∙ ap (λ a. made a (said_from (taken pending b).0 bytes)) ef
    ∙ sym (appends old (option_to_list (taken pending b).1) (said_from (taken pending b).0 bytes))

pub nodes_heard : (old first new : List Bool) (pending left bytes : List ℕ) → 1 ≤ length bytes → left ≡ (taken pending (get_or bytes 0 0)).0
    → first ≡ heard_in old (option_to_list (taken pending (get_or bytes 0 0)).1) → new ≡ heard_in first (said_from left (take (length bytes - 1) (drop 1 bytes)))
    → new ≡ heard_in old (said_from pending bytes)
nodes_heard = folded heard_in heard_append

pub bytes_heard : (now : ℕ) (old first new pending left bytes : List ℕ) → 1 ≤ length bytes → left ≡ (taken pending (get_or bytes 0 0)).0
    → first ≡ beats_in now old (option_to_list (taken pending (get_or bytes 0 0)).1) → new ≡ beats_in now first (said_from left (take (length bytes - 1) (drop 1 bytes)))
    → new ≡ beats_in now old (said_from pending bytes)
bytes_heard now = folded (beats_in now) (beats_append now)

pub bytes_left : (pending left later bytes : List ℕ) → 1 ≤ length bytes → left ≡ (taken pending (get_or bytes 0 0)).0 → later ≡ left_from left (take (length bytes - 1) (drop 1 bytes)) → later ≡ left_from pending bytes
bytes_left pending left later [] some el e = absurd (omega arith)
bytes_left pending left later (b ∷ bytes) some el e = e ∙ ap (λ l. left_from left l) (rest_of pending b bytes) ∙ ap (λ l. left_from l bytes) el

-- turns and one more
log_more : (turns : List (ℕ × List ℕ)) (now : ℕ) (bytes : List ℕ) → attending_log (turns ++ (now, bytes) ∷ []) ≡ attending_log turns ++ Read bytes ∷ Asked now ∷ []
log_more [] now bytes = refl
log_more ((at, got) ∷ turns) now bytes = ap (λ log. Read got ∷ Asked at ∷ log) (log_more turns now bytes)

attended_more : (awaited : List Awaited) (h : Hearing) (turns : List (ℕ × List ℕ)) (now : ℕ) (bytes : List ℕ) → attended awaited h (turns ++ (now, bytes) ∷ []) ≡ turned awaited (attended awaited h turns) now bytes
attended_more awaited h [] now bytes = refl
attended_more awaited h ((at, got) ∷ turns) now bytes = attended_more awaited (turned awaited h at got) turns now bytes

all_more : {A : Type 0} (Q : A → Type 0) (xs : List A) (x : A) → AllByRecursion Q xs → Q x → AllByRecursion Q (xs ++ x ∷ [])
all_more Q [] x h q = (q, tt)
all_more Q (y ∷ xs) x h q = (h.0, all_more Q xs x h.1 q)

-- nodes are attended to so far, for at least so many turns
pub record Attends {P : Type 0} (reads writes : ByteStep P) (asks : ClockStep P) (awaited : List Awaited) (limit began : ℕ) (p : P) (k : ℕ) (h : Hearing) (q : P) : Type 0 where
  pub turns : List (ℕ × List ℕ)
  pub did : DidAll reads writes asks p (Asked began ∷ attending_log turns) q
  pub soon : AllByRecursion (λ turn. turn.0 - began < limit) turns
  pub is : h ≡ attended awaited (beginning began) turns
  pub many : k ≤ length turns

module _ {P : Type 0} (reads writes : ByteStep P) (asks : ClockStep P) (awaited : List Awaited) (limit began : ℕ) (p : P) where
  pub attends_first : (k : ℕ) (h : Hearing) (q : P) → asks p began q → h ≡ beginning began → k ≡ 0 → Attends reads writes asks awaited limit began p k h q
  attends_first k h q asked e ek = record { turns = []; did = (q, asked, refl); soon = tt; is = e; many = omega (arith, ek) }

  turn_done : (k : ℕ) (h : Hearing) (q r s : P) (now : ℕ) (bytes : List ℕ) (a : Attends reads writes asks awaited limit began p k h q) → reads q bytes r → asks r now s
      → DidAll reads writes asks p (Asked began ∷ attending_log (a.turns ++ (now, bytes) ∷ [])) s
  turn_done k h q r s now bytes a got asked =
      subst (λ log. DidAll reads writes asks p (Asked began ∷ log) s) (sym (log_more a.turns now bytes))
      (did_both reads writes asks p q s (Asked began ∷ attending_log a.turns) (Read bytes ∷ Asked now ∷ []) a.did (r, got, (s, asked, refl)))

  turn_is : (k : ℕ) (h later : Hearing) (q : P) (now : ℕ) (bytes : List ℕ) (a : Attends reads writes asks awaited limit began p k h q) → later ≡ turned awaited h now bytes → later ≡ attended awaited (beginning began) (a.turns ++ (now, bytes) ∷ [])
  turn_is k h later q now bytes a e = e ∙ ap (λ (x : Hearing). turned awaited x now bytes) a.is ∙ sym (attended_more awaited (beginning began) a.turns now bytes)

  pub attends_on : (k : ℕ) (h later : Hearing) (q r s : P) (now : ℕ) (bytes : List ℕ) → Attends reads writes asks awaited limit began p k h q → reads q bytes r → asks r now s → later ≡ turned awaited h now bytes → now - began < limit
      → Attends reads writes asks awaited limit began p (k + 1) later s
  attends_on k h later q r s now bytes a got asked e early = record {
    turns = a.turns ++ (now, bytes) ∷ [];
    did = turn_done k h q r s now bytes a got asked;
    soon = all_more (λ (turn : ℕ × List ℕ). turn.0 - began < limit) a.turns (now, bytes) a.soon early;
    is = turn_is k h later q now bytes a e;
    many = one_longer k a.turns (now, bytes) a.many;
  }

  pub attends_all : (k : ℕ) (h later : Hearing) (q r s : P) (now : ℕ) (bytes : List ℕ) (heartbeats : Heartbeats) → Attends reads writes asks awaited limit began p k h q → reads q bytes r → asks r now s → later ≡ turned awaited h now bytes → limit ≤ now - began
      → heartbeats ≡ record { heard = later.heard; late = later.late } → Attended reads writes asks awaited limit p heartbeats s
  attends_all k h later q r s now bytes heartbeats a got asked e enough el = record {
    began = began;
    early = a.turns;
    last = (now, bytes);
    did = turn_done k h q r s now bytes a got asked;
    soon = a.soon;
    reaches = enough;
    heard_are = ap (λ (x : Heartbeats). x.heard) el ∙ ap (λ (x : Hearing). x.heard) (turn_is k h later q now bytes a e);
    late_are = ap (λ (x : Heartbeats). x.late) el ∙ ap (λ (x : Hearing). x.late) (turn_is k h later q now bytes a e);
  }

  -- nodes are not attended to for so long
  module _ (fails : ByteStep P) where
    abbrev Lost : P → Type 0
    Lost r = AttendFails reads writes asks fails p r

    turn_off : (k : ℕ) (h : Hearing) (q r : P) (now : ℕ) (bytes : List ℕ) → Attends reads writes asks awaited limit began p k h q → BrokeOff reads writes asks fails q (Read bytes ∷ Asked now ∷ []) r → Lost r
    turn_off k h q r now bytes a off =
        let log : Asked began ∷ attending_log (a.turns ++ (now, bytes) ∷ []) ≡ (Asked began ∷ attending_log a.turns) ++ Read bytes ∷ Asked now ∷ [] = ap (λ l. Asked began ∷ l) (log_more a.turns now bytes) in
        (began, a.turns ++ (now, bytes) ∷ [], inl (subst (λ l. BrokeOff reads writes asks fails p l r) (sym log) (did_then_broke reads writes asks fails p q r (Asked began ∷ attending_log a.turns) (Read bytes ∷ Asked now ∷ []) a.did off)))

    pub attend_unbegun : (r : P) → fails p [] r → Lost r
    attend_unbegun r f = (0, [], inl (inl f))

    pub attend_unread : (k : ℕ) (h : Hearing) (q r : P) → Attends reads writes asks awaited limit began p k h q → fails q [] r → Lost r
    attend_unread k h q r a f = turn_off k h q r 0 [] a (inl f)

    pub attend_unasked : (k : ℕ) (h : Hearing) (q m r : P) (bytes : List ℕ) → Attends reads writes asks awaited limit began p k h q → reads q bytes m → fails m [] r → Lost r
    attend_unasked k h q m r bytes a got f = turn_off k h q r 0 bytes a (inr (m, got, inl f))

    pub attend_too_long : (k : ℕ) (h : Hearing) (q : P) → Attends reads writes asks awaited limit began p k h q → 18446744073709551615 ≤ k → Lost q
    attend_too_long k h q a enough = (began, a.turns, inr (a.did, omega (arith, a.many, enough)))
