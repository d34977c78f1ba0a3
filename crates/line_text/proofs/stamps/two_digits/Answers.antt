-- The pattern has two digits there.
use Rattle.std.proofs.Common.{◌+◌, arith}
use Rattle.event_rules.specs.Stamps.{stamp_pattern}
use Rattle.line_text.proofs.StampShapes.{digit_there}
use Rattle.line_text.proofs.stamps.two_digits.Goals as goal

pub bounds-text-place : goal.bounds-text-place
bounds-text-place c =
    let first = digit_there stamp_pattern c.args.text.now c.args.place c.requires.shape c.requires.first in
    let second = digit_there stamp_pattern c.args.text.now (c.args.place + 1) c.requires.shape c.requires.second in
    omega arith

pub overflow_sub-result : goal.overflow_sub-result
overflow_sub-result c =
    let first = digit_there stamp_pattern c.args.text.now c.args.place c.requires.shape c.requires.first in
    let second = digit_there stamp_pattern c.args.text.now (c.args.place + 1) c.requires.shape c.requires.second in
    omega arith

pub overflow_mul-result : goal.overflow_mul-result
overflow_mul-result c =
    let first = digit_there stamp_pattern c.args.text.now c.args.place c.requires.shape c.requires.first in
    let second = digit_there stamp_pattern c.args.text.now (c.args.place + 1) c.requires.shape c.requires.second in
    omega arith

pub bounds-text-place-2 : goal.bounds-text-place-2
bounds-text-place-2 c =
    let first = digit_there stamp_pattern c.args.text.now c.args.place c.requires.shape c.requires.first in
    let second = digit_there stamp_pattern c.args.text.now (c.args.place + 1) c.requires.shape c.requires.second in
    omega arith

pub overflow_sub-result-2 : goal.overflow_sub-result-2
overflow_sub-result-2 c =
    let first = digit_there stamp_pattern c.args.text.now c.args.place c.requires.shape c.requires.first in
    let second = digit_there stamp_pattern c.args.text.now (c.args.place + 1) c.requires.shape c.requires.second in
    omega arith

pub overflow_add-result-2 : goal.overflow_add-result-2
overflow_add-result-2 c =
    let first = digit_there stamp_pattern c.args.text.now c.args.place c.requires.shape c.requires.first in
    let second = digit_there stamp_pattern c.args.text.now (c.args.place + 1) c.requires.shape c.requires.second in
    omega arith

pub returns-clause-bound : goal.returns-clause-bound
returns-clause-bound c =
    let first = digit_there stamp_pattern c.args.text.now c.args.place c.requires.shape c.requires.first in
    let second = digit_there stamp_pattern c.args.text.now (c.args.place + 1) c.requires.shape c.requires.second in
    omega arith
