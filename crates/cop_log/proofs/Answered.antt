-- What was told of all entries is an answer.
use Rattle.std.proofs.Common.{◌≡◌, ◌∙◌, List, [], ◌∷◌, ◌++◌, length, refl, sym, subst, arith, append_assoc, append-nil, Bool, true, Option, Some, None}
use Rattle.std.specs.Prelude.{◌&&◌, All, is_none}
use Rattle.std.specs.Option.{ForSome}
use Rattle.std.proofs.lemmas.List.Elements.{All-push}
use Rattle.cop_lines.specs.declared.entries.Entry.{Entry}
use Rattle.cop_log.specs.declared.anchors.Anchor.{Anchor}
use Rattle.cop_log.specs.declared.anchors.Pile.{Pile}
use Rattle.cop_log.specs.declared.anchors.Top.{Top}
use Rattle.cop_log.specs.declared.findings.Finding.{Finding}
use Rattle.cop_log.specs.declared.findings.Finding.TheVariants.{Unknown, Length, Soon, Crowded, Fallen}
use Rattle.cop_log.specs.declared.told.Told.{Told}
use Rattle.cop_log.specs.Log.{Terms, IsEvidence, IsAnswer}
use Rattle.cop_log.specs.Watching.{Stands, IsTold, IsRising, tells_nothing}
use Rattle.cop_log.specs.Watchers.{findings_of, listed}
use Rattle.cop_log.proofs.Convicts.{convicts}

with_listed : (P : Finding → Type 0) (xs : List Finding) (o : Option Finding) → All P xs → ForSome o P → All P (xs ++ listed o)
with_listed P xs None h p = subst (All P) (sym (append-nil xs)) h
with_listed P xs (Some f) h p = All-push P xs f h (p f refl)

pub noted : (t : Terms) (log : List Entry) (found : List Finding) (told : Told) → All (IsEvidence t log) found → IsTold t log told → All (IsEvidence t log) (found ++ findings_of told)
noted t log found told h w =
    let fell = with_listed (IsEvidence t log) found told.fallen h w.fallen in
    let one = with_listed (IsEvidence t log) (found ++ listed told.fallen) told.named fell w.named in
    let two = with_listed (IsEvidence t log) ((found ++ listed told.fallen) ++ listed told.named) told.soon one w.soon in
    let three = with_listed (IsEvidence t log) (((found ++ listed told.fallen) ++ listed told.named) ++ listed told.soon) told.crowded two w.crowded in
    subst (All (IsEvidence t log)) (append_assoc ((found ++ listed told.fallen) ++ listed told.named) (listed told.soon) (listed told.crowded)
    ∙ (append_assoc (found ++ listed told.fallen) (listed told.named) (listed told.soon ++ listed told.crowded)
    ∙ append_assoc found (listed told.fallen) (listed told.named ++ (listed told.soon ++ listed told.crowded)))) three

front_empty : (xs ys : List Finding) → xs ++ ys ≡ [] → xs ≡ []
front_empty [] ys e = refl
front_empty (x ∷ xs) ys e = absurd (cc)

back_empty : (xs ys : List Finding) → xs ++ ys ≡ [] → ys ≡ []
back_empty [] ys e = e
back_empty (x ∷ xs) ys e = absurd (cc)

none_listed : (o : Option Finding) → listed o ≡ [] → is_none o ≡ true
none_listed None e = refl
none_listed (Some f) e = absurd (cc)

all_true : (c z a b d : Bool) → c ≡ true → z ≡ true → a ≡ true → b ≡ true → d ≡ true → (c && (z && (a && (b && d)))) ≡ true
all_true c z a b d e y f g h = rw (e, y, f, g, h) refl

pub still_clean : (found : List Finding) (told : Told) (clean : Bool) → (found ≡ [] → clean ≡ true) → found ++ findings_of told ≡ [] → (clean && tells_nothing told) ≡ true
still_clean found told clean h e =
    let all = back_empty found (findings_of told) e in
    let rest = back_empty (listed told.fallen) (listed told.named ++ (listed told.soon ++ listed told.crowded)) all in
    let last = back_empty (listed told.named) (listed told.soon ++ listed told.crowded) rest in
    all_true clean (is_none told.fallen) (is_none told.named) (is_none told.soon) (is_none told.crowded) (h (front_empty found (findings_of told) e))
    (none_listed told.fallen (front_empty (listed told.fallen) (listed told.named ++ (listed told.soon ++ listed told.crowded)) all))
    (none_listed told.named (front_empty (listed told.named) (listed told.soon ++ listed told.crowded) rest))
    (none_listed told.soon (front_empty (listed told.soon) (listed told.crowded) last))
    (none_listed told.crowded (back_empty (listed told.soon) (listed told.crowded) last))

none_of : {X : Type 0} (P : X → Type 0) (xs : List X) → All P xs → ((x : X) → P x → ⊥) → xs ≡ []
none_of P [] h k = refl
none_of P (x ∷ xs) h k = absurd (k x (h 0 x (omega arith)))

pub answer : (t : Terms) (log : List Entry) (anchors : List (Option Anchor)) (pile : Option Pile) (top : Option Top) (clean : Bool) (found : List Finding) →
    All (IsEvidence t log) found → (found ≡ [] → clean ≡ true) → Stands t log (length log) anchors pile clean → IsRising t.clock log (length log) top clean → IsAnswer t log found
answer t log anchors pile top clean found all nothing w rising = record {
  evident = all;
  clean = none;
  innocent = λ until run bounded with. none_of (IsEvidence t log) found all (convicts t until run log bounded with);
}
  where
    none : found ≡ [] → (finding : Finding) → IsEvidence t log finding → ⊥
    none e (Unknown i) h = w.named.none_strange (nothing e) i h.0 h.1
    none e (Length i) h = w.named.none_misshapen (nothing e) i h.0 h.1
    none e (Soon i j n) h = (w.watched.lanes h.0 h.1 h.2).none_soon (nothing e) i j n (let soon = h.3 in soon.within) h.3
    none e (Crowded i j) h = w.held.none_crowded (nothing e) i j h.0 (let crowded = h.1 in crowded.within) h.1
    none e (Fallen i j) h = rising.none_fallen (nothing e) i j h.within h
