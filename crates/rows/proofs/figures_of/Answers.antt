-- `rows::figures_of` meets its contract, figure by figure.
use mathlib.Core.Path.{ap, ◌∙◌}
use Rattle.rows.specs.Rows.{figures_of, digit}
use Rattle.rows.proofs.figures_of.Goals as goal

pub returns : goal.returns
unfolding figures_of
returns c = λ j. record { client = c.or_number-client.ensures j; least = c.or_number-least.ensures j; mean = c.avg_px.ensures j; left = c.open_of.ensures j; side = c.digit-side.ensures j; tif = c.digit-tif.ensures j; class = c.digit-class.ensures j; traded = (c.digit-traded.ensures ∙ ap digit c.trade_status-t.ensures) j; replaced = (c.digit-replaced.ensures ∙ ap digit c.replaced_status-r.ensures) j; own = c.own_field-own.ensures j; last = c.last_field-last.ensures j }
