-- `listing_shape::counts::file_shape` meets its contract. Assumes nothing.
use mathlib.Core.Path.{◌∙◌}
use Rattle.listing_shape.proofs.CountLaws.{rows_over, values-over, shape_so}
use Rattle.listing_shape.proofs.counts.file_shape.Goals as goal

pub returns-in_err-rows : goal.returns-in_err-rows
returns-in_err-rows c = c.from_residual.ensures ∙ rows_over _ _ _ c.column_count.ensures c.in_err-rows.was

pub returns-in_err-values : goal.returns-in_err-values
returns-in_err-values c = c.from_residual-in_err-values.ensures ∙ values-over _ _ _ _ c.column_count.ensures c.in_ok-rows.was _ c.column_count-2.ensures c.in_err-values.was

pub returns : goal.returns
returns c = shape_so _ _ _ _ c.column_count.ensures c.in_ok-rows.was _ _ c.column_count-2.ensures c.in_ok-values.was
