use Rattle.std.proofs.Common.{arith}
use Rattle.frame.proofs.Sending.{frame-length, filled}
use Rattle.frame.proofs.writer.Unescaped.fill_in.Goals as goal

pub put-kind_at-requires : goal.put-kind_at-requires
put-kind_at-requires c = omega (arith, frame-length _ _ _ _ c.args.self.now.checked)

pub put-data_at-requires : goal.put-data_at-requires
put-data_at-requires c = omega (arith, frame-length _ _ _ _ c.args.self.now.checked)

pub put_all-check_at-requires : goal.put_all-check_at-requires
put_all-check_at-requires c = omega (arith, frame-length _ _ _ _ c.args.self.now.checked)

pub put-end-requires : goal.put-end-requires
put-end-requires c = omega (arith, frame-length _ _ _ _ c.args.self.now.checked)

pub bounds-out-end : goal.bounds-out-end
bounds-out-end c = omega (arith, frame-length _ _ _ _ c.args.self.now.checked)

pub returns : goal.returns
returns c =
    filled _ _ _ _ _ _ _ _ _ _ _ _ _ c.args.self.now.checked
    c.put-kind_at.ensures
    c.put-data_at.ensures
    c.put_all-check_at.ensures
    c.put-end.ensures
