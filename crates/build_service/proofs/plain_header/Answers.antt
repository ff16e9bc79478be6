-- `build_service::plain_header`: counts that are not wrong fit.
-- Assumes nothing.
use native.Mathlib.Omega.{arith}
use Rattle.build_service.specs.Storing.{few_vertices, few_records}
use Rattle.build_service.proofs.plain_header.Goals as goal

pub overflow_cast-vertices : goal.overflow_cast-vertices
overflow_cast-vertices c = omega (arith, few_vertices c.args.job c.args.plain.now.coordinates.now c.args.plain.now.corners.now c.requires)

pub overflow_cast-records : goal.overflow_cast-records
overflow_cast-records c = omega (arith, few_records c.args.job c.args.plain.now.coordinates.now c.args.plain.now.corners.now c.requires)
