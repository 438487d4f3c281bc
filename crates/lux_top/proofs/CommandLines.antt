-- The rows of words before a command is done.
use Rattle.std.proofs.Common.{◌≡◌, inl, inr, sym, subst, Err, Option, Some, None}
use Rattle.lux_answers.specs.declared.answers.Answer.{Answer}
use Rattle.lux_answers.specs.declared.answers.Answer.TheVariants.{Usage, Memory}
use Rattle.lux_answers.specs.declared.answers.Outcome.{Outcome}
use Rattle.lux_answers.specs.Answers.{outcome_of}
use Rattle.lux_plans.specs.Runs.{World, Refuses, Concludes}
use Rattle.lux_top.specs.declared.commands.Command.{Command}
use Rattle.lux_top.specs.declared.commands.Command.TheVariants.{Solve, Photo, Run, Audit, Generate}
use Rattle.lux_top.specs.Commands.{CommandRow}

row_of_words : (command : Option Command) (before after : World) (outcome : Outcome) (answer : Answer) → outcome ≡ outcome_of answer → CommandRow command before after answer → CommandRow command before after outcome.answer
row_of_words command before after outcome answer is row = subst (λ (o : Outcome). CommandRow command before after o.answer) (sym is) row

refusal_by_memory : (command : Option Command) (before after : World) → Refuses Memory before after → CommandRow command before after Memory
refusal_by_memory None before after refuses = refuses
refusal_by_memory (Some (Solve name)) before after refuses = (refuses, tt)
refusal_by_memory (Some (Photo name)) before after refuses = (refuses, tt)
refusal_by_memory (Some (Run words)) before after refuses = (refuses, tt)
refusal_by_memory (Some (Audit system ledger)) before after refuses = (refuses, tt)
refusal_by_memory (Some (Generate number)) before after refuses = (refuses, tt)

-- want of memory for the words
pub memory_row : (command : Option Command) (before after : World) (outcome : Outcome) → Concludes (Err Memory) before after outcome → CommandRow command before after outcome.answer
memory_row command before after outcome (inl (is, refuses)) = row_of_words command before after outcome Memory is (refusal_by_memory command before after refuses)
memory_row command before after outcome (inr (is, refuses)) = row_of_words command before after outcome Memory is (refusal_by_memory command before after refuses)

-- words that are no command
pub usage_row : (before after : World) (outcome : Outcome) → Concludes (Err Usage) before after outcome → CommandRow None before after outcome.answer
usage_row before after outcome (inl (is, refuses)) = row_of_words None before after outcome Usage is refuses
usage_row before after outcome (inr (is, refuses)) = row_of_words None before after outcome Memory is refuses
