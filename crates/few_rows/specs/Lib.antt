pub mod FewSums
