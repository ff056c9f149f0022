use Rattle.std.proofs.Common.{◌∙◌, sym, ap, ◌%◌, arith}
use Rattle.journals.specs.inner.Chains.{buckets}
use Rattle.journals.specs.laws.ChainLaws.{key_at, indexed_more}
use Rattle.journals.proofs.index.Index.add.Goals as goal

pub returns : goal.returns
returns c =
    let a = c.args in
    let key = sym (key_at a.lines.now a.n _ c.requires.0) in
    indexed_more _ a.n a.self.now (omega arith) (omega arith) c.requires.2 _ c.bucket_of-bucket.result (omega arith) key (c.bucket_of-bucket.ensures ∙ ap (λ k. k % buckets) key)
