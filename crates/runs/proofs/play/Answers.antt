use Rattle.std.proofs.Common.{◌≡◌, ◌<◌, length, take, drop, refl, ◌∙◌, subst, arith, rules}
use Rattle.runs.proofs.Playing.{Playing, playing_all, playing_more, playing_none, rest_more, run_between}
use Rattle.runs.proofs.play.Goals as goal
use Rattle.std.proofs.lemmas.List.{length-take, take-take}
use Rattle.runs.specs.Playing.{orders, told_of}

pub loop-i-init : goal.loop-i-init
loop-i-init g c = (playing_none g.B.Board.make g.B.M.Mark.kind _ _ _ c.new-screen.ensures.sound, refl, refl, g.B.Board.keeps.still _)

pub loop-i-preserved : goal.loop-i-preserved
loop-i-preserved g c =
    let i = c.loop-i.i in
    let told = c.loop-i.told in
    let calls = take c.min-room.result c.args.calls.now in
    let e = c.min-room.ensures in
    let n = length-take c.min-room.result c.args.calls.now in
    let h : i < length calls = omega arith in
    let k : i < length told = omega arith in (
      playing_more g.B.Board.make g.B.M.Mark.kind calls told i _ _ _ c.loop-i.invariant.0 h k _ c.call.result c.call.ensures.takes.goes,
      c.call.ensures.same ∙ c.loop-i.invariant.1,
      rest_more told c.args.told.now i c.call.result c.loop-i.invariant.2,
      g.B.Board.keeps.on _ _ _ c.loop-i.invariant.3 c.call.ensures.takes.kept,
    )

pub returns : goal.returns
returns g c =
    let b = g.B.Board in
    let room = c.min-room.result in
    let n = length-take room c.args.calls.now in
    let e : c.loop-i.i ≡ room = omega arith in
    let lent = c.new-screen.ensures.lent.1 in
    let all =
    playing_all b.make g.B.M.Mark.kind
    (subst (λ z. Playing b.make g.B.M.Mark.kind (b.cells c.new-screen.result.board.now) (b.meter c.new-screen.result.board.now) (orders z) (told_of (take room c.loop-i.told)) (c.loop-i.screen.state, c.loop-i.screen.rule) (b.cells c.loop-i.screen.board.now) (b.meter c.loop-i.screen.board.now)) (take-take room room c.args.calls.now (omega arith))
    (subst (λ z. Playing b.make g.B.M.Mark.kind (b.cells c.new-screen.result.board.now) (b.meter c.new-screen.result.board.now) (orders (take z (take room c.args.calls.now))) (told_of (take z c.loop-i.told)) (c.loop-i.screen.state, c.loop-i.screen.rule) (b.cells c.loop-i.screen.board.now) (b.meter c.loop-i.screen.board.now)) e c.loop-i.invariant.0)) in
    record {
      kept = subst (b.keeps.same c.args.board.now) (search rules) (subst (λ z. b.keeps.same z c.loop-i.screen.board.now) lent c.loop-i.invariant.3);
      many = c.min-room.ensures;
      run = run_between b.make g.B.M.Mark.kind b.cells b.meter lent (search rules) all;
      rest = subst (λ z. drop z c.loop-i.told ≡ drop z c.args.told.now) e c.loop-i.invariant.2;
    }
