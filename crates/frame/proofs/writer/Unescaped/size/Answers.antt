use Rattle.std.proofs.Common.{arith}
use Rattle.frame.proofs.Sending.{frame-length}
use Rattle.frame.proofs.writer.Unescaped.size.Goals as goal

pub returns : goal.returns
returns c =
    let f = c.args.self.now in
    omega (arith, frame-length f.number f.kind f.check f.bytes.now f.checked, c.size_of.ensures.0, c.size_of-2.ensures.0, c.sizes.ensures.0, c.size_of-3.ensures.0)
