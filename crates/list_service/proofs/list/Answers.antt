-- `list_service::list`: the whole listing, or a clear buffer where there is no room for it.
-- Assumes nothing.
use mathlib.Core.Path.{◌∙◌}
use native.Mathlib.Omega.{arith}
use lib.ListN.{length}
use Rattle.laws.specs.Lists.{clear_long}
use Rattle.list_service.specs.Putting.{put_length, answer_whole, answer_short}
use Rattle.list_service.proofs.list.Goals as goal

pub returns-then-out-whole : goal.returns-then-out-whole
returns-then-out-whole c =
    let a = c.args in
    let room = length a.out.now in
    let cleared = c.fill.ensures.after (λ y e. e) in
    let put = c.put_listing-whole in
    let long = put_length put.ensures.text ∙ clear_long c.fill.new.self room cleared in
    rw (c.fill-then-out-whole.ensures.after (λ y e. e), long)
    (answer_short a.mesh.now room _ put.result (rw cleared at put.ensures) (omega (arith, c.if-out-whole.true, long)) c.too_short.result c.too_short.ensures)

pub returns : goal.returns
returns c =
    let a = c.args in
    let room = length a.out.now in
    let cleared = c.fill.ensures.after (λ y e. e) in
    let put = c.put_listing-whole in
    let long = put_length put.ensures.text ∙ clear_long c.fill.new.self room cleared in
    answer_whole a.mesh.now room _ put.result (rw cleared at put.ensures) (omega (arith, c.if-out-whole.false, long))
