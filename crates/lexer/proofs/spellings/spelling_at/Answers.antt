-- `lexer::spellings::spelling_at` meets its contract.
use Rattle.std.proofs.Common.{Some, None}
use Rattle.lexer.proofs.Read.{found_rest, row_read, outside_read}
use Rattle.lexer.proofs.spellings.spelling_at.Goals as goal

pub returns-in-Some : goal.returns-in-Some
returns-in-Some c =
    let found = found_rest c.args.text.now c.args.at (Some c.in-Some.field-0.now) c.in-Some.ensures in
    row_read _ _ c.requires.0 c.in-Some.field-0.now found c.requires.2 c.requires.3

pub returns-in-None : goal.returns-in-None
returns-in-None c =
    let found = found_rest c.args.text.now c.args.at None c.in-None.ensures in
    outside_read _ _ c.requires.0 found c.requires.2 c.requires.3
