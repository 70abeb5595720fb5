-- `board::Board::take` meets its contract.
use Rattle.std.proofs.Common.{◌+◌, ◌-◌, ◌≡◌, arith, length, set, length-set, length-take, rules}
use Rattle.stored.specs.Layout.{most_cycles}
use Rattle.board.specs.Board.{Sized}
use Rattle.board.proofs.Admission.{takes, sheet_part}
use Rattle.board.proofs.Feeds.{cycles_part, took}
use Rattle.board.proofs.Board.take.Goals as goal

pub offset_bounds-cycles-taken : goal.offset_bounds-cycles-taken
offset_bounds-cycles-taken c = omega (arith, (takes _ _ _ c.requires.0).room)

pub bounds-cycles-taken : goal.bounds-cycles-taken
bounds-cycles-taken c = omega (arith, (takes _ _ _ c.requires.0).room)

pub overflow_add-next : goal.overflow_add-next
overflow_add-next c = omega (arith, (takes _ _ _ c.requires.0).room)

pub slice_bounds-check_cycles-end-2 : goal.slice_bounds-check_cycles-end-2
slice_bounds-check_cycles-end-2 c =
    let long : length c.args.self.cycles ≡ most_cycles = search rules in
    simp length-set (omega (arith, long, (takes _ _ _ c.requires.0).room))

pub check_cycles-answer-requires : goal.check_cycles-answer-requires
check_cycles-answer-requires c =
    let taking = takes _ _ _ c.requires.0 in
    let long : length c.args.self.cycles ≡ most_cycles = search rules in
    let size = length-take (c.args.self.taken + 1 - 0) (set c.args.self.cycles c.args.self.taken c.args.cycle) in
    (omega (arith, taking.few_signals, c.requires.1), omega (arith, size, taking.room))

pub returns : goal.returns
returns c =
    let a = c.args in
    let checked = c.check_cycles-answer in
    let sized : Sized a.self = record { sheet_long = search rules; cycles_long = search rules } in
    let all =
    took a.self a.cycle a.words.now c.requires.0 sized checked.result c.ok.result a.s _ _ _ c.requires.1
    (sheet_part a.self _ c.split-end.ensures.0) (cycles_part a.self a.cycle a.words.now c.requires.0 sized)
    checked.ensures.value checked.ensures.words_after c.ok.ensures.value in
    record { board_value = all.0; answer_value = all.1.0; words_after = all.1.1 }
