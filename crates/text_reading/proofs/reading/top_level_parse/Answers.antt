use Rattle.std.proofs.Common.{◌≡◌, ℕ, ap, subst, ◌≤◌, ◌+◌, ◌^◌}
use Rattle.text_reading.proofs.reading.top_level_parse.Goals as goal

pub returns-clause-full : goal.returns-clause-full
returns-clause-full g c e =
    let full = c.understand.ensures.full e in
    let same : c.key_types_by.new.self.program.counter ≡ c.args.ctx.now.program.counter = ap (λ s. s.program.counter) c.key_types_by.ensures.same in
    (full.0, full.1, subst (λ (n : ℕ). 2 ^ 64 ≤ n + full.0) same full.2)
