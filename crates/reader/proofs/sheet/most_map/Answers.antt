-- `most_map` meets its contract: 2 ^ n is at most 2 ^ 16.
use native.Mathlib.Omega.{arith}
use lib.Pow.{pow_pos, pow_mono}
use Rattle.config.proofs.Clusters.{lawful-bounds}
use Rattle.reader.proofs.sheet.most_map.Goals as goal

pub overflow_cast-result : goal.overflow_cast-result
overflow_cast-result c = omega (arith, lawful-bounds _ c.requires)

pub overflow_shl-result : goal.overflow_shl-result
overflow_shl-result c = omega (arith, lawful-bounds _ c.requires)

pub overflow_sub-result : goal.overflow_sub-result
overflow_sub-result c = omega (arith, pow_mono (lawful-bounds _ c.requires).most, pow_pos c.args.config.now.n)

pub returns : goal.returns
returns c = omega (arith, pow_mono (lawful-bounds _ c.requires).most)
