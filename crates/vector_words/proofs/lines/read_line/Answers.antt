use Rattle.vector_words.proofs.LineLaws.{line_begins, no_end, no_number, line_ends, line_goes_on}
use borrow.Author.Rules.{rules}
use Rattle.vector_words.proofs.lines.read_line.Goals as goal

pub loop-n-init : goal.loop-n-init
loop-n-init c = search (rules, line_begins)

pub returns-in_default : goal.returns-in_default
returns-in_default c = let l = c.loop-n in no_number c.args.text.now _ l.at l.n l.words l.invariant c.loop-n-test.true c.read_field-field.result c.read_field-field.ensures c.in_default.is

pub returns-then-byte-eq13 : goal.returns-then-byte-eq13
returns-then-byte-eq13 c = let l = c.loop-n in line_ends c.args.text.now _ l.at l.n l.words l.invariant c.loop-n-test.true c.read_field-field.result c.read_field-field.ensures _ c.in-Some.is c.byte.result c.byte.ensures c.if-byte-eq13.true _ c.ahead.ensures

pub loop-n-preserved : goal.loop-n-preserved
loop-n-preserved c = let l = c.loop-n in line_goes_on c.args.text.now _ l.at l.n l.words l.invariant c.loop-n-test.true c.read_field-field.result c.read_field-field.ensures _ c.in-Some.is c.byte.result c.byte.ensures c.if-byte-eq13.false _ c.ahead-at.ensures

pub returns : goal.returns
returns c = let l = c.loop-n in no_end c.args.text.now _ l.at l.n l.words l.invariant c.loop-n-test.false
