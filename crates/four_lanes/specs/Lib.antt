pub mod FourLanes
