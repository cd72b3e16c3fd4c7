-- Records as lines: what stands before the number, and the first two.
use Rattle.std.proofs.Common.{◌≡◌, ℕ, ◌<◌, ◌^◌, List, [], ◌∷◌, ◌++◌, arith, append_assoc, get_or, refl, sym, ◌∙◌, codes, decimal}
use Rattle.std.specs.List.{flat_map}
use Rattle.std.proofs.lemmas.Grind.{flat_map-append}
use Rattle.csv.specs.Machine.{line_feed}
use Rattle.csv.specs.Writing.{fields_text, is_blank, comma, escaped}
use Rattle.cop_table.proofs.QuoteLemmas.{IsPlain, decimal_is_plain}
use Rattle.cop_frame.specs.declared.rates.Rate.{Rate}
use Rattle.cop_frame.specs.declared.rates.Rate.TheVariants.{Kbit10, Kbit20, Kbit50, Kbit125, Kbit250, Kbit500, Kbit800, Kbit1000}
use Rattle.cop_frame.specs.Rate.{kbits_of}
use Rattle.cop_cert.specs.Format.{fields_of, header, line, lines, version, version_of, refusal_rows, text_of, shared_refusal_rows, shared_text_of}
use Rattle.cop_cert.specs.Writer.{Adds}
use Rattle.cop_cert.specs.declared.refusals.Refusal.{Refusal}
use Rattle.cop_cert.specs.declared.entries.Version.{Version}
use Rattle.cop_cert.specs.declared.entries.Version.TheVariants.{First, Second, Third}

-- a record of four fields that need no quotes
four_are_line : (a b c d : List ℕ) → IsPlain a → IsPlain b → IsPlain c → IsPlain d
    → (((((((a ++ comma ∷ []) ++ b) ++ comma ∷ []) ++ c) ++ comma ∷ []) ++ d) ++ line_feed ∷ []) ≡ line (a ∷ b ∷ c ∷ d ∷ [])
unfolding line fields_text is_blank
four_are_line a b c d h k l m = rw (h, k, l, m) (simp append_assoc refl)

kbits_are_few : (rate : Rate) → kbits_of rate < 10 ^ 64
kbits_are_few Kbit10 = omega arith
kbits_are_few Kbit20 = omega arith
kbits_are_few Kbit50 = omega arith
kbits_are_few Kbit125 = omega arith
kbits_are_few Kbit250 = omega arith
kbits_are_few Kbit500 = omega arith
kbits_are_few Kbit800 = omega arith
kbits_are_few Kbit1000 = omega arith

pub head_is_line : (rate : Rate) (number value : ℕ) (what : List ℕ) → number < 10 ^ 20 → IsPlain what → value < 2 ^ 64
    → (((((((decimal (kbits_of rate) ++ comma ∷ []) ++ decimal number) ++ comma ∷ []) ++ what) ++ comma ∷ []) ++ decimal value) ++ line_feed ∷ []) ≡ line (fields_of rate number what value)
head_is_line rate number value what fits plain small =
    four_are_line (decimal (kbits_of rate)) (decimal number) what (decimal value) (decimal_is_plain (kbits_of rate) (kbits_are_few rate)) (decimal_is_plain number (omega (arith, fits))) plain (decimal_is_plain value (omega (arith, small)))

-- the names of the fields, and the version
pub first_are_lines : (v : Version) → (codes "rate,pdo,what,value\n0,0,version," ++ get_or (version v) 3 []) ++ line_feed ∷ [] ≡ lines (header ∷ version v ∷ [])
unfolding line fields_text is_blank escaped
first_are_lines First = refl
first_are_lines Second = refl
first_are_lines Third = refl

pub text_is_lines : (refusals : List Refusal) (before after : List ℕ) → before ≡ lines (header ∷ version (version_of refusals) ∷ []) → Adds before after (flat_map refusal_rows refusals)
    → after ≡ text_of refusals
unfolding text_of
text_is_lines refusals before after h added =
    added.text ∙ rw h (sym (flat_map-append line (header ∷ version (version_of refusals) ∷ []) (flat_map refusal_rows refusals)))

pub third_are_lines : codes "rate,pdo,what,value\n0,0,version,3\n" ≡ lines (header ∷ version Third ∷ [])
unfolding line fields_text is_blank escaped
third_are_lines = refl

pub shared_is_lines : (refusals : List Refusal) (before after : List ℕ) → before ≡ lines (header ∷ version Third ∷ []) → Adds before after (flat_map shared_refusal_rows refusals)
    → after ≡ shared_text_of refusals
unfolding shared_text_of
shared_is_lines refusals before after h added =
    added.text ∙ rw h (sym (flat_map-append line (header ∷ version Third ∷ []) (flat_map shared_refusal_rows refusals)))
