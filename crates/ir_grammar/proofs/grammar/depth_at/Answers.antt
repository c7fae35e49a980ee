use Rattle.std.proofs.Common.{sym, ◌∙◌, arith, le_refl}
use Rattle.ir_grammar.specs.Reading.{tooks}
use Rattle.ir_grammar.proofs.Depths.{deep_append, depth_passes, depth_did, depth_opened, depth_closed, depth_left}
use Rattle.ir_grammar.proofs.Changes.{is_opening, is_closing, is_keeping}
use Rattle.ir_grammar.proofs.grammar.depth_at.Goals as goal

pub returns-in_err-open : goal.returns-in_err-open
returns-in_err-open c done h = rw c.from_residual.ensures (deep_append c.args.deepest (tooks done) done _ (le_refl _) (rw c.in_err-open.was at h))

pub returns-then-open-deepest : goal.returns-then-open-deepest
returns-then-open-deepest c done h =
    let opens = is_opening _ _ (sym c.change.ensures ∙ c.in-Opens.is) in
    depth_passes c.args.deepest done c.in_ok-open.open c.args.action (rw c.in_ok-open.was at h) opens (omega arith)

pub returns-else-open-deepest : goal.returns-else-open-deepest
returns-else-open-deepest c done h =
    let d = rw c.in_ok-open.was at h in
    let opens = is_opening _ _ (sym c.change.ensures ∙ c.in-Opens.is) in
    depth_did c.args.deepest (tooks done) done c.in_ok-open.open _ c.args.action d (λ _ le. omega arith) (omega arith) (depth_opened c.in_ok-open.open c.args.action opens)

pub returns-in-Closes : goal.returns-in-Closes
returns-in-Closes c done h =
    let d = rw c.in_ok-open.was at h in
    let closes = is_closing _ _ (sym c.change.ensures ∙ c.in-Closes.is) in
    depth_did c.args.deepest (tooks done) done c.in_ok-open.open _ c.args.action d (λ o. let no = closes.0 in cc) (omega arith)
    (c.saturating_sub.ensures ∙ depth_closed c.in_ok-open.open c.args.action closes.0 closes.1)

pub returns-in-Keeps : goal.returns-in-Keeps
returns-in-Keeps c done h =
    let d = rw c.in_ok-open.was at h in
    let keeps = is_keeping _ _ (sym c.change.ensures ∙ c.in-Keeps.is) in
    depth_did c.args.deepest (tooks done) done c.in_ok-open.open _ c.args.action d (λ o. let no = keeps.0 in cc) d.0 (depth_left c.in_ok-open.open c.args.action keeps.0 keeps.1)
