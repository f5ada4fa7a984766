mod WholeLane
