use Rattle.text_pieces.specs.TextLaws.{writes_one}
use Rattle.text_pieces.proofs.write_byte.Goals as goal

pub returns : goal.returns
returns c = writes_one _ _ _ c.requires
