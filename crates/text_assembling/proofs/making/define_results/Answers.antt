use Rattle.std.proofs.Common.{◌∙◌, ◌<◌, ◌≤◌, length, get_or, refl, arith}
use Rattle.ir_program.specs.Program.{TypedValue, results_at}
use Rattle.ir_program.specs.declared.handles.Value.{Value}
use Rattle.text_frames.proofs.Defining.{defines_more, defines_none}
use Rattle.text_assembling.proofs.making.define_results.Goals as goal
use Rattle.text_assembling.proofs.making.define_results.Goals.{then-index-count+then-number-values, else-index-count, else-index-count-via-then-index-count+else-number-values, else-index-count-via-else-index-count}

abbrev value_of : TypedValue → Value
value_of d = d.value

pub loop-index-preserved : goal.loop-index-preserved
loop-index-preserved g c =
    let now = c.loop-index.invariant in
    let ns = c.args.numbers.now in
    let ds = results_at c.args.ctx.now.program c.args.op in
    let i = c.loop-index.index in
    elim c.if-index-count.branch [
      | then-index-count+then-number-values w ↦ rw w.values-is (now.0, λ e. now.1 e ∙ defines_more value_of ns ds i _ _ c.loop-index.values c.loop-index-test.true refl w.get_result.ensures.value)
      | else-index-count w ↦ rw w.values-is (
        now.0,
        λ e.
            let within : i < length ds = omega (arith, c.loop-index-test.true, e) in
            elim w.else-index-count.branch [
              | else-index-count-via-then-index-count+else-number-values v ↦
                  let past : length c.loop-index.values ≤ get_or ns i 0 = omega (arith, v.if-number-values.false) in
                  now.1 e ∙ defines_none value_of ns ds i _ c.loop-index.values c.loop-index-test.true within refl past
              | else-index-count-via-else-index-count v ↦ let out : ⊥ = omega (arith, v.if-index-count.false, now.0, within) in absurd out
            ],
      )
    ]
