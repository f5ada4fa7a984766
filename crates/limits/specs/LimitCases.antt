-- The limits in the figures of the rules.
-- Assumes nothing.
use Rattle.std.specs.Prelude.{◌≡◌, pos, neg_ℤ}
use Rattle.limits.specs.Limits.{rank_limit, extent_limit, stride_limit, base_limit, slice_limit, product_limit}
use Rattle.limits.specs.Limits.{rows_limit, cols_limit, depth_limit, block_limit, job_limit, work_room, lag_limit, used_limit, least_sample, greatest_sample}

pub record LimitCases : Type 0 where
  -- "at most 8 letters", "Extents become 0 to 65,536"
  pub letters : rank_limit ≡ 8
  pub extents : extent_limit ≡ 65536
  -- "every stride from -16,777,216 to 16,777,216, every base at most 16,777,216, every tensor's slice at most 16,777,216 words"
  pub strides : stride_limit ≡ 16777216
  pub bases : base_limit ≡ 16777216
  pub slices : slice_limit ≡ 16777216
  -- "the product of the extents of all different labels at most 1,073,741,824"
  pub products : product_limit ≡ 1073741824
  -- "rows and cols 1 to 64 and depth 1 to 128", "a count above 64 is read as 64"
  pub rows : rows_limit ≡ 64
  pub columns : cols_limit ≡ 64
  pub depths : depth_limit ≡ 128
  pub offsets : block_limit ≡ 64
  -- "a word count at most 4,096", "the program's work slice has 16,384 words"
  pub job_words : job_limit ≡ 4096
  pub job_work : work_room ≡ 16384
  -- "L is over 64", "n - L is not 1 to 256", "a sample is outside -2,048 to 2,047"
  pub lags : lag_limit ≡ 64
  pub used : used_limit ≡ 256
  pub lowest : least_sample ≡ neg_ℤ (pos 2048)
  pub highest : greatest_sample ≡ pos 2047
