-- The limits of the rules, by name. The code's are the associated constants of `Limits`; `Limits::all` is proved to hold these.
-- Assumes nothing.
use Rattle.std.specs.Prelude.{ℕ, ◌+◌, ◌*◌, ℤ, pos, negsuc}
use Rattle.limits.specs.declared.limits.Limits.{Limits}

abbrev pub rank_limit : ℕ  -- letters of a tensor
rank_limit = 8

abbrev pub extent_limit : ℕ
extent_limit = 65536

abbrev pub stride_limit : ℕ  -- the size of a stride, up or down
stride_limit = 16777216

abbrev pub base_limit : ℕ
base_limit = 16777216

abbrev pub slice_limit : ℕ  -- words of a tensor's slice
slice_limit = 16777216

abbrev pub product_limit : ℕ  -- the product of the extents of all different labels
product_limit = 1073741824

abbrev pub letters_limit : ℕ  -- the letters of four tensors: no limit of the rules, but the room in the code's lists of letters
letters_limit = 4 * rank_limit

abbrev pub labels_limit : ℕ  -- the letters of A, B and D: the room in the code's lists of labels
labels_limit = 3 * rank_limit

abbrev pub rows_limit : ℕ  -- rows of a tile
rows_limit = 64

abbrev pub cols_limit : ℕ  -- columns of a tile
cols_limit = 64

abbrev pub depth_limit : ℕ  -- depth of a tile
depth_limit = 128

abbrev pub block_limit : ℕ  -- offsets of a block of rows or columns
block_limit = 64

abbrev pub job_limit : ℕ  -- words of a tensor in a job file
job_limit = 4096

abbrev pub work_room : ℕ  -- words of the job program's work slice
work_room = 16384

abbrev pub file_room : ℕ  -- bytes that the job program reads of its file: one more than the longest that is accepted
file_room = 65901

abbrev pub text_room : ℕ  -- bytes for the text that it prints
text_room = 65536

abbrev pub lag_limit : ℕ  -- the greatest lag of two recordings that may be asked for
lag_limit = 64

abbrev pub used_limit : ℕ  -- samples of a recording that a score uses
used_limit = 256

abbrev pub least_sample : ℤ  -- -2,048
least_sample = negsuc 2047

abbrev pub greatest_sample : ℤ
greatest_sample = pos 2047

abbrev pub lag_room : ℕ  -- room in the code for the scores of all lags
lag_room = lag_limit + 1

abbrev pub limits : Limits
limits =
    record {
      rank = rank_limit;
      extent = extent_limit;
      stride = stride_limit;
      base = base_limit;
      slice = slice_limit;
      product = product_limit;
      letters = letters_limit;
      labels = labels_limit;
      rows = rows_limit;
      cols = cols_limit;
      depth = depth_limit;
      block = block_limit;
      job = job_limit;
      work = work_room;
      file = file_room;
      text = text_room;
      lag = lag_limit;
      used = used_limit;
      low = least_sample;
      high = greatest_sample;
      lags = lag_room;
    }
