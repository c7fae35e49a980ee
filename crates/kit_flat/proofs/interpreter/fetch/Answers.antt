use Rattle.std.proofs.Common.{refl, arith}
use Rattle.std.proofs.lemmas.Option.{slice_get_read}
use Rattle.kit_flat.proofs.Places.{got, past}
use Rattle.kit_flat.proofs.Steps.{fetched_none, fetched_no_op, fetched_some}
use Rattle.kit_flat.proofs.interpreter.fetch.Goals as goal

pub returns-in-None : goal.returns-in-None
returns-in-None c =
    let e = slice_get_read c.args.code.now.functions.items _ c.args.top.now.function c.index-function.result.now
    refl c.requires.active.within c.index-function.ensures in
    let h = c.in-None.ensures.lookup in
    fetched_none c.args.code.now.functions.items c.args.top.now c.index-function.result.now e
    (past c.deref.result.now _ c.args.top.now.block c.deref.ensures.value h.3)

pub returns-in-None-get : goal.returns-in-None-get
returns-in-None-get c =
    let e = slice_get_read c.args.code.now.functions.items _ c.args.top.now.function c.index-function.result.now
    refl c.requires.active.within c.index-function.ensures in
    let k = c.in-Some.ensures.lookup in
    let h = c.in-None-get.ensures.lookup in
    fetched_no_op c.args.code.now.functions.items c.args.top.now c.index-function.result.now c.in-Some.block.now e
    (got c.deref.result.now _ c.args.top.now.block c.in-Some.block.now c.deref.ensures.value (omega arith) k.1)
    (past c.deref-in-Some.result.now _ c.args.top.now.index c.deref-in-Some.ensures.value h.3)

pub returns-in-Some-get : goal.returns-in-Some-get
returns-in-Some-get c =
    let e = slice_get_read c.args.code.now.functions.items _ c.args.top.now.function c.index-function.result.now
    refl c.requires.active.within c.index-function.ensures in
    let k = c.in-Some.ensures.lookup in
    let h = c.in-Some-get.ensures.lookup in
    fetched_some c.args.code.now.functions.items c.requires.sound c.args.top.now c.requires.active
    c.index-function.result.now c.in-Some.block.now c.in-Some-get.instruction.now e
    (got c.deref.result.now _ c.args.top.now.block c.in-Some.block.now c.deref.ensures.value (omega arith) k.1)
    (got c.deref-in-Some.result.now _ c.args.top.now.index c.in-Some-get.instruction.now
    c.deref-in-Some.ensures.value (omega arith) h.1)
    (omega arith)
