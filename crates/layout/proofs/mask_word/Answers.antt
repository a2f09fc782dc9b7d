-- A word of the rest is the word there; past the end its bytes are 0.
use Rattle.std.proofs.Common.{sym, ◌∙◌, arith}
use Rattle.layout.specs.FieldLaws.{le_past}
use Rattle.layout.proofs.Fields.{le_rest}
use Rattle.layout.proofs.mask_word.Goals as goal

pub returns-then-rest-k : goal.returns-then-rest-k
returns-then-rest-k c = sym (le_past 8 c.rest-rest.result.now _ (omega arith)) ∙ le_rest 8 _ _ _ _ c.rest-rest.ensures

pub returns : goal.returns
returns c = c.at.ensures ∙ le_rest 8 _ _ _ _ c.rest-rest.ensures
