-- What the head of the code stands for. No contract of a public call speaks of it.
use Rattle.std.specs.Prelude.{ℕ}
use Rattle.lm63_reader.specs.declared.head.Head.{Head}
use Rattle.lm63_reader.specs.Lm63.{Layout}

-- lists that begin at a place, behind a head
abbrev pub head_layout : ℕ → Head → Layout
head_layout start head = record { start = start; verticals = head.verticals; horizontals = head.horizontals; factor = head.factor }
