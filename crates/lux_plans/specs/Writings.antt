-- What a command has before it writes: its answer, and the bytes for the output.
use Rattle.std.specs.Prelude.{ℕ, List}
use Rattle.lux_answers.specs.declared.answers.Answer.{Answer}

pub record Writing : Type 0 where
  pub answer : Answer
  pub bytes : List ℕ
