-- What the code holds, as the definitions see it.
use Rattle.std.specs.Prelude.{ℕ, ◌≡◌, List, [], ◌∷◌, ◌++◌, map, Option, Some, None, Result, Ok, Err}
use Rattle.cop_tidy_reading.specs.declared.question.Question.{Question}
use Rattle.cop_tidy_reading.specs.declared.question.ReadingFault.{ReadingFault}
use Rattle.cop_tidy_reading.specs.declared.question.ReadingFault.TheVariants as faults
use Rattle.cop_tidy_reading.specs.declared.items.Item.{Item}
use Rattle.cop_tidy_reading.specs.Items.{Said}

-- a header or a key
abbrev pub said_of : Item → Said
said_of item = record { line = item.line; section = item.section; kind = item.kind; body = item.body.now }

-- a header or a key, where a line is one
abbrev pub item_seen : Result (Option Item) Question → Result (List Said) Question
item_seen (Ok None) = Ok []
item_seen (Ok (Some item)) = Ok (said_of item ∷ [])
item_seen (Err question) = Err question

-- what is known, and what is read behind it
abbrev pub joined : List Said → Result (List Said) Question → Result (List Said) Question
joined found (Err question) = Err question
joined found (Ok rest) = Ok (found ++ rest)

-- the question of a fault, unless memory ran out
abbrev pub Asks : {Y : Type 0} → ReadingFault → Result Y Question → Type 0
Asks faults.Memory read = Unit {0}
Asks (faults.Asked question) read = read ≡ Err question

-- what a function returned, seen by view, is what a reading gives, unless memory ran out
abbrev pub Gives : {X Y : Type 0} → (X → Y) → Result X ReadingFault → Result Y Question → Type 0
Gives view (Ok x) read = read ≡ Ok (view x)
Gives view (Err fault) read = Asks fault read
