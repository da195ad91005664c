-- `script::run` meets its contract. Assumes nothing.
use mathlib.Core.Path.{◌≡◌}
use mathlib.Core.Bool.{false}
use native.Mathlib.Omega.{arith}
use borrow.Author.Rules.{rules}
use Rattle.text.proofs.Filling.{said_alone, said_as}
use Rattle.script.specs.Input.{script_fault}
use Rattle.script.proofs.Saying.{refused, accepted, at_fault_lem, refusal_fits}
use Rattle.script.proofs.run.Goals as goal

pub returns-in_default : goal.returns-in_default
returns-in_default c = let both = said_alone _ c.args.out.now (at_fault_lem _ (search rules))
    (search rules) c.input_refused.ensures c.put.ensures.value c.put.ensures.out_after in record { value = both.0; out_after = both.1 }

pub returns-in-Ok : goal.returns-in-Ok
returns-in-Ok c = let fine : script_fault c.args.s.now ≡ false = grind arith in let both = said_as c.args.out.now
    (accepted _ fine c.in-Some.ensures.parts c.start-begun.ensures.value c.in-Ok.is)
    c.lines.ensures.value c.lines.ensures.out_after in record { value = both.0; out_after = both.1 }

pub returns-in-Err : goal.returns-in-Err
returns-in-Err c = let fine : script_fault c.args.s.now ≡ false = grind arith in let both = said_alone _ c.args.out.now
    (refused _ fine c.in-Some.ensures.parts c.start-begun.ensures.value c.in-Err.is)
    (refusal_fits _) c.book_refused.ensures c.put-in-Err.ensures.value c.put-in-Err.ensures.out_after in record { value = both.0; out_after = both.1 }
