use Rattle.std.proofs.Common.{ℕ, ◌+◌, ◌*◌, ◌%◌, ◌∷◌, ◌++◌, length, ◌≡◌, ap, ◌∙◌, arith, rules}
use Rattle.firmware.proofs.laws.ByteLaws.{one_bit}
use Rattle.firmware.specs.laws.FillLaws.{begun, byte_more, more, all_filled}
use Rattle.firmware.proofs.block.put_tree.Goals as goal

pub returns : goal.returns
returns c =
    let t = c.args.t in
    let l = c.requires in
    let up_size : length t.up ≡ 16 = search rules in
    let first_size : length t.first ≡ 16 = search rules in
    let layout = byte_more 18 (begun c.args.out.now) (omega (arith, l)) in
    let columns = byte_more (t.columns % 128 + c.from.result * 128) layout (omega (arith, l)) in
    let root = byte_more (t.root % 256) columns (omega (arith, l)) in
    let up = more t.up 16 root c.put_bytes.ensures up_size in
    all_filled (more t.first 16 up c.put_bytes-2.ensures first_size) l
    ∙ ap (λ (k : ℕ). 18 ∷ (t.columns % 128 + k * 128) ∷ t.root % 256 ∷ (t.up ++ t.first)) (c.from.ensures ∙ one_bit t.watch)
