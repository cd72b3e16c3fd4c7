-- One turn more.
use Rattle.std.proofs.Common.{◌≡◌, ℕ, suc, ◌+◌, ◌-◌, ◌*◌, ◌%◌, ◌<◌, ◌≤◌, ◌==◌, Bool, true, false, cond, List, [], ◌∷◌, ◌++◌, sym, ap, subst, ◌∙◌, arith, append_assoc, append-nil}
use Rattle.rand_core.specs.Steps.{first_words}
use Rattle.rand_pcg.specs.Lcg.{Lcg}
use Rattle.rand_pcg.specs.Pcg.{pcg32}
use Rattle.cop_boot.specs.declared.schedule.Boot.{Boot}
use Rattle.cop_boot.specs.declared.turn.Turn.{Turn}
use Rattle.cop_boot.specs.Manager.{Managing}
use Rattle.cop_boot.specs.Device.{Attached}
use Rattle.cop_boot.specs.UnderWay.{IsUnderWay, HasRoomFor}
use Rattle.cop_engine.specs.Turns.{kinds, turn_of, passed_by, turns_of}

-- the turns so far and those of the words that are left are all turns
abbrev pub IsDrawn : List ℕ → List Turn → List Turn → ℕ → ℕ → Lcg → Type 0
IsDrawn nodes all turns now left generator = all ≡ turns ++ turns_of nodes now (first_words pcg32 left generator)

pub one_more : (nodes : List ℕ) (all turns new : List Turn) (now next total i word : ℕ) (turn : Turn) (generator later : Lcg) → i < total → (word, later) ≡ pcg32 generator
    → next ≡ passed_by now (word % kinds nodes) → turn ≡ turn_of nodes next (word % kinds nodes) → new ≡ turns ++ turn ∷ [] → IsDrawn nodes all turns now (total - i) generator
    → IsDrawn nodes all new next (total - (i + 1)) later
unfolding first_words turns_of
one_more nodes all turns new now next total i word turn generator later lt is passes so push so_far =
    let step : total - i ≡ suc (total - (i + 1)) = omega arith in
    so_far ∙ ap (λ left. turns ++ turns_of nodes now (first_words pcg32 left generator)) step
    ∙ ap (λ (p : ℕ × Lcg). turns ++ turns_of nodes now (p.0 ∷ first_words pcg32 (total - (i + 1)) p.1)) (sym is)
    ∙ ap (λ t. turns ++ (turn_of nodes t (word % kinds nodes) ∷ turns_of nodes t (first_words pcg32 (total - (i + 1)) later))) (sym passes)
    ∙ ap (λ x. turns ++ (x ∷ turns_of nodes next (first_words pcg32 (total - (i + 1)) later))) (sym so)
    ∙ sym (append_assoc turns (turn ∷ []) (turns_of nodes next (first_words pcg32 (total - (i + 1)) later)))
    ∙ ap (λ xs. xs ++ turns_of nodes next (first_words pcg32 (total - (i + 1)) later)) (sym push)

pub stays_low : (now kind i next : ℕ) → next ≡ passed_by now kind → now ≤ 400 * i → next ≤ 400 * (i + 1)
stays_low now kind i next is low = by_test (kind == 0) is
  where
    by_test : (b : Bool) → next ≡ cond b (now + 400) now → next ≤ 400 * (i + 1)
    by_test true e = omega arith
    by_test false e = omega arith

pub none_left : (nodes : List ℕ) (all turns : List Turn) (now left : ℕ) (generator : Lcg) → left ≡ 0 → IsDrawn nodes all turns now left generator → turns ≡ all
unfolding first_words turns_of
none_left nodes all turns now left generator none so_far =
    sym (so_far ∙ ap (λ left. turns ++ turns_of nodes now (first_words pcg32 left generator)) none ∙ append-nil turns)

-- some of the turns that were drawn are taken, and there is room for the others
pub record IsBooting (m : Managing) (devices : List Attached) (nodes : List ℕ) (all : List Turn) (now left : ℕ) (generator : Lcg) (later : Managing) (after : List Attached) (boot : Boot) : Type 0 where
  pub turns : List Turn
  pub drawn : IsDrawn nodes all turns now left generator
  pub under_way : IsUnderWay m devices turns later after boot
  pub room : HasRoomFor left later boot

-- at last all are taken
pub all_taken : (m : Managing) (devices : List Attached) (nodes : List ℕ) (all : List Turn) (now left : ℕ) (generator : Lcg) (later : Managing) (after : List Attached) (boot : Boot) → left ≡ 0
    → IsBooting m devices nodes all now left generator later after boot → IsUnderWay m devices all later after boot
all_taken m devices nodes all now left generator later after boot none booting =
    subst (λ ts. IsUnderWay m devices ts later after boot) (none_left nodes all booting.turns now left generator none booting.drawn) booting.under_way
