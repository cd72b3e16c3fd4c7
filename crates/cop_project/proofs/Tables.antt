-- Texts that are TOML.
use Rattle.std.proofs.Common.{◌≡◌, ℕ, List, Some, None, inl, inr}
use Rattle.std.proofs.lemmas.Bool.{cases_Bool}
use Rattle.std.proofs.lemmas.Str.{is_utf8-from_IsUtf8, IsUtf8-from_is_utf8}
use Rattle.std.specs.Str.{IsUtf8, is_utf8}
use Rattle.toml.specs.Data.{Members}
use Rattle.toml.specs.Parse.{parse_document}
use Rattle.cop_project.specs.Project.{table_of}

pub is_table : (text : List ℕ) (ms : Members) → IsUtf8 text → parse_document text ≡ Some ms → table_of text ≡ Some ms
is_table text ms u p = rw (is_utf8-from_IsUtf8 text u) p

pub no_table : (text : List ℕ) → (IsUtf8 text → parse_document text ≡ None) → table_of text ≡ None
no_table text h =
    elim (cases_Bool (is_utf8 text)) [
      | inl same ↦ rw same (h (IsUtf8-from_is_utf8 text same))
      | inr other ↦ rw other
    ]
