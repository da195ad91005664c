-- `script::input_refused` meets its contract. Assumes nothing.
use Rattle.text.proofs.Joined.{appended_text}
use Rattle.script.proofs.input_refused.Goals as goal

pub returns : goal.returns
returns c = simp (c.word.ensures, c.new.ensures, appended_text)
