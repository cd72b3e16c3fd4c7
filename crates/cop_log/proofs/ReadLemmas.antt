-- A reader of a log in pieces.
use Rattle.std.proofs.Common.{◌≡◌, ◌∙◌, ℕ, ◌+◌, ◌^◌, ◌<◌, ◌≤◌, List, [], ◌∷◌, ◌++◌, suc, length, sym, ap, subst, arith, append_assoc, append-nil, length-append, true, false, cond}
use Rattle.std.proofs.lemmas.Bool.Decides.{nat_tests}
use Rattle.std.specs.Prelude.{nat_lt, Option, None, Some, Result, Ok, Err, IfSome, IsErrAnd}
use Rattle.cop_table.specs.Reading.{◌>>=◌, Gives}
use Rattle.cop_lines.specs.declared.entries.Entry.{Entry}
use Rattle.cop_lines.specs.declared.entries.Message.{Message}
use Rattle.cop_lines.specs.declared.faults.LineFault.TheVariants as wrong
use Rattle.cop_lines.specs.declared.reader.LineReader.{LineReader}
use Rattle.cop_lines.specs.Words.{front}
use Rattle.cop_lines.specs.Texts.{lines_of, lines_behind, most_line, GoesOn, Ends}
use Rattle.cop_lines.proofs.TextLemmas.{behind_nothing, line_ends, line_goes_on, left_shorter, kept_long, piece_long, front_short}
use Rattle.cop_log.specs.declared.faults.LogFault.{LogFault}
use Rattle.cop_log.specs.declared.faults.LogFault.TheVariants.{Line}
use Rattle.cop_log.specs.declared.reader.LogReader.{LogReader}
use Rattle.cop_log.specs.Reading.{Wanted, Taken, line_taken, numbered, line_at, entries_with, log_from, log_in, fault_of_text, name_of, HasRead, Reads, Refuses, IsWhole, TakesLine, IsWrong}

-- what is true of a fault of the text
pub for_fault : (o : Option LogFault) (P Q : LogFault → Type 0) → ((f : LogFault) → P f → Q f) → IfSome o P → IfSome o Q
for_fault None P Q h p = p
for_fault (Some f) P Q h p = h f p

-- a reader in which the line alone has changed
pub record IsSame (r m : LogReader) : Type 0 where
  pub line : m.line ≡ r.line
  pub reader : m.reader ≡ r.reader
  pub channel : m.channel ≡ r.channel

same_log : (n n' : ℕ) (r r' : LineReader) (c c' : Option (List ℕ)) (log : List Entry) (ls : List (List ℕ)) → n' ≡ n → r' ≡ r → c' ≡ c → log_from n r c log ls ≡ log_from n' r' c' log ls
same_log n n' r r' c c' log ls en er ec =
    ap (λ k. log_from k r c log ls) (sym en) ∙ (ap (λ k. log_from n' k c log ls) (sym er) ∙ ap (λ k. log_from n' r' k log ls) (sym ec))

-- what a line gives, where it is not too long
not_longer : (n : ℕ) → n ≤ most_line → nat_lt most_line n ≡ false
not_longer n l = grind (arith, nat_tests)

is_longer : (n : ℕ) → most_line < n → nat_lt most_line n ≡ true
is_longer n l = grind (arith, nat_tests)

line_at_is : (n : ℕ) (r : LineReader) (c : Option (List ℕ)) (line : List ℕ) → length line ≤ most_line → line_at n r c line ≡ numbered n (line_taken n r c line)
line_at_is n r c line l = ap (λ b. cond b (Err (Line n wrong.Long)) (numbered n (line_taken n r c line))) (not_longer (length line) l)

line_too_long : (n : ℕ) (r : LineReader) (c : Option (List ℕ)) (line : List ℕ) → most_line < length line → line_at n r c line ≡ Err (Line n wrong.Long)
line_too_long n r c line l = ap (λ b. cond b (Err (Line n wrong.Long)) (numbered n (line_taken n r c line))) (is_longer (length line) l)

-- a line that is read, or that is wrong, and others behind it
first_read : (n : ℕ) (r : LineReader) (c : Option (List ℕ)) (log : List Entry) (line kept text : List ℕ) (x : Taken) → length line ≤ most_line → line_taken n r c line ≡ Ok x
    → log_from n r c log (line ∷ lines_behind kept text) ≡ log_from (suc n) x.reader x.channel (entries_with log x.message) (lines_behind kept text)
first_read n r c log line kept text x l e =
    let (m, ms, is, least) = kept_long kept text in
    ap (λ ls. log_from n r c log (line ∷ ls)) is
    ∙ (ap (λ t. t >>= (λ x. log_from (suc n) x.reader x.channel (entries_with log x.message) (m ∷ ms))) (line_at_is n r c line l ∙ ap (numbered n) e)
    ∙ ap (log_from (suc n) x.reader x.channel (entries_with log x.message)) (sym is))

first_wrong : (n : ℕ) (r : LineReader) (c : Option (List ℕ)) (log : List Entry) (line kept text : List ℕ) (f : LogFault) → line_at n r c line ≡ Err f → log_from n r c log (line ∷ lines_behind kept text) ≡ Err f
first_wrong n r c log line kept text f e =
    let (m, ms, is, least) = kept_long kept text in
    ap (λ ls. log_from n r c log (line ∷ ls)) is ∙ ap (λ t. t >>= (λ x. log_from (suc n) x.reader x.channel (entries_with log x.message) (m ∷ ms))) e

first_long : (n : ℕ) (r : LineReader) (c : Option (List ℕ)) (log : List Entry) (line : List ℕ) (ls : List (List ℕ)) → most_line < length line → log_from n r c log (line ∷ ls) ≡ Err (Line n wrong.Long)
first_long n r c log line [] l = ap (λ b. cond b (Err (Line n wrong.Long)) (Ok log)) (is_longer (length line) l)
first_long n r c log line (m ∷ ms) l = ap (λ t. t >>= (λ x. log_from (suc n) x.reader x.channel (entries_with log x.message) (m ∷ ms))) (line_too_long n r c line l)

-- a piece in which the line does not end
pub piece_kept : (r m : LogReader) (piece : List ℕ) → GoesOn r.cutter piece m.cutter → IsSame r m → Reads r piece m [] None
piece_kept r m piece g same = λ w text log small h.
    let n = length-append r.cutter piece in
    let long : length m.cutter ≡ length r.cutter + length piece = ap length g.all ∙ n in
    let few = h.few in
    let line = same.line in
    record {
      goes_on = λ more.
          h.goes_on more
          ∙ (ap (log_from (suc r.line) r.reader (name_of r.channel) log) (line_goes_on r.cutter piece m.cutter more g)
          ∙ same_log (suc r.line) (suc m.line) r.reader m.reader (name_of r.channel) (name_of m.channel) log (lines_behind m.cutter more) (ap suc same.line) same.reader (ap name_of same.channel));
      few = omega (arith, long, few, line);
      short = g.short;
      each = (let each = h.each in omega (arith, each, line));
    }

one_more : (log : List Entry) (message : Option Message) → length (entries_with log message) ≤ suc (length log)
one_more log None = omega arith
one_more log (Some m) = let n = length-append log (m.entry ∷ []) in omega (arith, n)

-- a line that ends in a piece and is read
pub line_read : (r m s : LogReader) (piece left : List ℕ) (message : Option Message) → Ends r.cutter piece m.cutter left → IsSame r m → TakesLine m s message → Reads r piece s left message
line_read r m s piece left message e same t = λ w text log small h.
    let few = h.few in
    let line = same.line in
    let shorter = left_shorter r.cutter piece m.cutter left e in
    let next : s.line ≡ suc m.line = t.number (omega (arith, few, line, shorter)) in
    let number : suc s.line ≡ suc (suc r.line) = ap suc (next ∙ ap suc line) in
    let empty : length s.cutter ≡ 0 = ap length t.next in
    record {
      goes_on = λ more.
          h.goes_on more
          ∙ (ap (log_from (suc r.line) r.reader (name_of r.channel) log) (line_ends r.cutter piece m.cutter left more e)
          ∙ (same_log (suc r.line) (suc m.line) r.reader m.reader (name_of r.channel) (name_of m.channel) log (m.cutter ∷ lines_behind [] (left ++ more)) (ap suc same.line) same.reader (ap name_of same.channel)
          ∙ (first_read (suc m.line) m.reader (name_of m.channel) log m.cutter [] (left ++ more) (record { reader = s.reader; channel = name_of s.channel; message = message }) e.short
          (subst (λ k. line_taken k m.reader (name_of m.channel) m.cutter ≡ Ok (record { reader = s.reader; channel = name_of s.channel; message = message })) next t.taken)
          ∙ (ap (λ k. log_from k s.reader (name_of s.channel) (entries_with log message) (lines_behind [] (left ++ more))) (ap suc (sym next))
          ∙ ap (λ k. log_from (suc s.line) s.reader (name_of s.channel) (entries_with log message) (lines_behind k (left ++ more))) (sym t.next)))));
      few = omega (arith, few, next, line, shorter, empty);
      short = omega (arith, empty);
      each = (let each = h.each in let one = one_more log message in omega (arith, each, next, line, one));
    }

-- a line that ends in a piece and is wrong
pub line_wrong : (r m : LogReader) (piece left : List ℕ) (fault : LogFault) → Ends r.cutter piece m.cutter left → IsSame r m → IsWrong m fault → Refuses r piece fault
line_wrong r m piece left fault e same = for_fault (fault_of_text fault) _ _ (λ f is w text log small h more.
    let few = h.few in
    let line = same.line in
    let shorter = left_shorter r.cutter piece m.cutter left e in
    h.goes_on more
    ∙ (ap (log_from (suc r.line) r.reader (name_of r.channel) log) (line_ends r.cutter piece m.cutter left more e)
    ∙ (same_log (suc r.line) (suc m.line) r.reader m.reader (name_of r.channel) (name_of m.channel) log (m.cutter ∷ lines_behind [] (left ++ more)) (ap suc same.line) same.reader (ap name_of same.channel)
    ∙ first_wrong (suc m.line) m.reader (name_of m.channel) log m.cutter [] (left ++ more) f
    (line_at_is (suc m.line) m.reader (name_of m.channel) m.cutter e.short ∙ is (omega (arith, few, line, shorter))))))

-- a line that is too long
pub long_line : (r : LogReader) (piece : List ℕ) (number : ℕ) → (r.line + 1 < 2 ^ 64 → number ≡ suc r.line) → most_line < length r.cutter + length (front 10 piece) → Refuses r piece (Line number wrong.Long)
long_line r piece number is long = λ w text log small h more.
    let few = h.few in
    let part = front_short piece in
    let (l, ls, e, least) = piece_long r.cutter piece more in
    h.goes_on more
    ∙ (ap (log_from (suc r.line) r.reader (name_of r.channel) log) e
    ∙ (first_long (suc r.line) r.reader (name_of r.channel) log l ls (omega (arith, long, least))
    ∙ ap (λ n. Err (Line n wrong.Long)) (sym (is (omega (arith, few, part, long))))))

-- one step after another
pub reads_on : (a b c : LogReader) (piece rest left : List ℕ) (message : Option Message) → Reads a piece b rest None → Reads b rest c left message → Reads a piece c left message
reads_on a b c piece rest left message first next = λ w text log small h. next w text log small (first w text log small h)

pub refused_on : (a b : LogReader) (piece rest : List ℕ) (fault : LogFault) → Reads a piece b rest None → Refuses b rest fault → Refuses a piece fault
refused_on a b piece rest fault first = for_fault (fault_of_text fault) _ _ (λ f is w text log small h more. is w text log small (first w text log small h) more)

-- what is left is shorter than the piece
pub ends_shorter : (r m : LogReader) (rest left : List ℕ) (n : ℕ) → Ends r.cutter rest m.cutter left → length rest ≤ n → length left < n
ends_shorter r m rest left n e l = let shorter = left_shorter r.cutter rest m.cutter left e in omega (arith, shorter)

-- the end of the text
pub whole : (r : LogReader) → IsWhole r
whole r = λ w text log h. (
  ap (log_in w) (sym (append-nil text))
      ∙ (h.goes_on [] ∙ ap (λ b. cond b (Err (Line (suc r.line) wrong.Long)) (Ok log)) (not_longer (length r.cutter) h.short)),
  let few = h.few in let each = h.each in omega (arith, few, each),
)

-- nothing was read
pub same_lines : (r : LineReader) (c : Option (List ℕ)) (text : List ℕ) → log_from 1 r c [] (lines_of text) ≡ log_from 1 r c [] (lines_behind [] text)
same_lines r c text = ap (log_from 1 r c []) (sym (behind_nothing text))

-- a piece more
pub piece_more : (w : Wanted) (text piece : List ℕ) (r : LogReader) (log : List Entry) → HasRead w text [] r log → HasRead w (text ++ piece) piece r log
piece_more w text piece r log h = record {
  goes_on = λ more. ap (log_in w) (append_assoc text piece more) ∙ h.goes_on (piece ++ more);
  few = (let few = h.few in let n = length-append text piece in omega (arith, few, n));
  short = h.short;
  each = h.each;
}

-- the log of a text is what a function gives of it, or its fault is the text's
pub err_is : {X : Type 0} (view : X → List Entry) (r : Result X LogFault) (e : LogFault) (reading : Result (List Entry) LogFault) → IsErrAnd r (λ f. f ≡ e) → IfSome (fault_of_text e) (λ f. reading ≡ Err f) → Gives view fault_of_text r reading
err_is view (Ok x) e reading is h = absurd is
err_is view (Err f) e reading is h = subst (λ f. IfSome (fault_of_text f) (λ g. reading ≡ Err g)) (sym is) h

pub refused_text : (w : Wanted) (text left : List ℕ) (r : LogReader) (log : List Entry) (e : LogFault) → length text < 2 ^ 64 → HasRead w text left r log → Refuses r left e → IfSome (fault_of_text e) (λ f. log_in w text ≡ Err f)
refused_text w text left r log e small h = for_fault (fault_of_text e) _ _ (λ f is. ap (log_in w) (sym (append-nil text)) ∙ is w text log small h [])
